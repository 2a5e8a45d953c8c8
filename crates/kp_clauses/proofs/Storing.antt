-- What a store holds after clauses were added.
use Rattle.std.proofs.Common.{◌≡◌, Bool, true, false, not, ◌||◌, ◌⊎◌, cond, List, [], ◌∷◌, ◌++◌, refl, sym, ◌∙◌, ap, subst, inl, inr, filter, Result, Ok, Err, OnOk, OnErr}
use Rattle.std.proofs.lemmas.Bool.{and_parts, and_from, or_cases, or_left, or_right, false≢true, not-true, cases_Bool, false_from_ne_true, or_parts}
use Rattle.std.proofs.lemmas.List.{append_assoc, append-nil}
use Rattle.std.proofs.lemmas.List.Elements.{filter-append}
use Rattle.std.specs.List.{list_any, list_all}
use Rattle.kp_base.specs.declared.lit.Lit.{Lit}
use Rattle.kp_base.specs.Lists.{Member}
use Rattle.kp_base.specs.Implicates.{is_within}
use Rattle.kp_base.proofs.Lists.{any_member, any_from, all_from, all_member, append_member, filter_member, member_filter, member_left}
use Rattle.kp_clauses.specs.Stored.{subsumed, replaced, with_clause, with_all, are_apart}
use Rattle.kp_clauses.proofs.Within.{within_trans}

member_last : {X : Type 0} (xs : List X) (x : X) → Member (xs ++ x ∷ []) x
member_last [] x = inl refl
member_last (y ∷ xs) x = inr (member_last xs x)

member_before : {X : Type 0} (xs : List X) (y x : X) → Member xs x → Member (xs ++ y ∷ []) x
member_before [] y x m = absurd m
member_before (z ∷ xs) y x m = elim m [ inl e ↦ inl e | inr r ↦ inr (member_before xs y x r) ]

-- nothing else comes in
pub with_clause_member : (cs : List (List Lit)) (c x : List Lit) → Member (with_clause cs c) x → Member cs x ⊎ (c ≡ x)
with_clause_member cs c x m = go (subsumed cs c) m
  where
    go : (b : Bool) → Member (cond b cs (replaced cs c)) x → Member cs x ⊎ (c ≡ x)
    go true m = inl m
    go false m = elim (append_member (filter (λ d. not (is_within c d)) cs) (c ∷ []) x m) [
      | inl r ↦ inl (filter_member (λ d. not (is_within c d)) cs x r).0
      | inr r ↦ elim r [ inl e ↦ inr e | inr bad ↦ absurd bad ]
    ]

pub with_all_member : (cs ds : List (List Lit)) (x : List Lit) → Member (with_all cs ds) x → Member cs x ⊎ Member ds x
with_all_member cs [] x m = inl m
with_all_member cs (d ∷ ds) x m = elim (with_all_member (with_clause cs d) ds x m) [
  | inl r ↦ elim (with_clause_member cs d x r) [ inl h ↦ inl h | inr e ↦ inr (inl e) ]
  | inr r ↦ inr (inr r)
]

-- what was subsumed still is
pub with_clause_old : (cs : List (List Lit)) (c d : List Lit) → subsumed cs d ≡ true → subsumed (with_clause cs c) d ≡ true
with_clause_old cs c d h = go (subsumed cs c)
  where
    go : (b : Bool) → subsumed (cond b cs (replaced cs c)) d ≡ true
    go true = h
    go false =
        let e = any_member (λ e. is_within e d) cs h in
        elim (cases_Bool (is_within c e.0)) [
          | inl on ↦ any_from (λ e. is_within e d) (replaced cs c) c (member_last (filter (λ d. not (is_within c d)) cs) c) (within_trans c e.0 d on e.2)
          | inr off ↦ any_from (λ e. is_within e d) (replaced cs c) e.0 (member_before (filter (λ d. not (is_within c d)) cs) c e.0 (member_filter (λ d. not (is_within c d)) cs e.0 e.1 (ap not off))) e.2
        ]

-- and so is what holds the new clause
pub with_clause_new : (cs : List (List Lit)) (c d : List Lit) → is_within c d ≡ true → subsumed (with_clause cs c) d ≡ true
with_clause_new cs c d h = go (subsumed cs c) refl
  where
    go : (b : Bool) → subsumed cs c ≡ b → subsumed (cond b cs (replaced cs c)) d ≡ true
    go true is = let e = any_member (λ e. is_within e c) cs is in any_from (λ e. is_within e d) cs e.0 e.1 (within_trans e.0 c d e.2 h)
    go false is = any_from (λ e. is_within e d) (replaced cs c) c (member_last (filter (λ d. not (is_within c d)) cs) c) h

pub with_all_old : (cs ds : List (List Lit)) (d : List Lit) → subsumed cs d ≡ true → subsumed (with_all cs ds) d ≡ true
with_all_old cs [] d h = h
with_all_old cs (e ∷ ds) d h = with_all_old (with_clause cs e) ds d (with_clause_old cs e d h)

pub with_all_new : (cs ds : List (List Lit)) (d : List Lit) → subsumed ds d ≡ true → subsumed (with_all cs ds) d ≡ true
with_all_new cs [] d h = absurd (false≢true h)
with_all_new cs (e ∷ ds) d h = elim (or_cases (is_within e d) (subsumed ds d) h) [
  | inl in' ↦ with_all_old (with_clause cs e) ds d (with_clause_new cs e d in')
  | inr r ↦ with_all_new (with_clause cs e) ds d r
]

abbrev near : List Lit → List Lit → Bool
near c d = is_within c d || is_within d c

pub apart_filter : (p : List Lit → Bool) (cs : List (List Lit)) → are_apart cs ≡ true → are_apart (filter p cs) ≡ true
apart_filter p [] h = refl
apart_filter p (c ∷ cs) h =
    let parts = and_parts (list_all (λ d. not (near c d)) cs) (are_apart cs) h in
    go (p c) parts.0 (apart_filter p cs parts.1)
  where
    go : (b : Bool) → list_all (λ d. not (near c d)) cs ≡ true → are_apart (filter p cs) ≡ true → are_apart (cond b (c ∷ filter p cs) (filter p cs)) ≡ true
    go true far rest = and_from (list_all (λ d. not (near c d)) (filter p cs)) (are_apart (filter p cs)) (all_from (λ d. not (near c d)) (filter p cs) (λ d m. all_member (λ d. not (near c d)) cs d (filter_member p cs d m).0 far)) rest
    go false far rest = rest

pub apart_last : (cs : List (List Lit)) (c : List Lit) → are_apart cs ≡ true → ((d : List Lit) → Member cs d → (is_within c d ≡ false) × (is_within d c ≡ false)) → are_apart (cs ++ c ∷ []) ≡ true
apart_last [] c h far = refl
apart_last (d ∷ cs) c h far =
    let parts = and_parts (list_all (λ e. not (near d e)) cs) (are_apart cs) h in
    let here = far d (inl refl) in
    and_from (list_all (λ e. not (near d e)) (cs ++ c ∷ [])) (are_apart (cs ++ c ∷ []))
    (all_from (λ e. not (near d e)) (cs ++ c ∷ []) (λ e m. elim (append_member cs (c ∷ []) e m) [
      | inl r ↦ all_member (λ e. not (near d e)) cs e r parts.0
      | inr r ↦ elim r [
        | inl same ↦ subst (λ (x : List Lit). not (near d x) ≡ true) same (rw (here.1, here.0) refl)
        | inr bad ↦ absurd bad
      ]
    ]))
    (apart_last cs c parts.1 (λ e m. far e (inr m)))

pub replaced_apart : (cs : List (List Lit)) (c : List Lit) → are_apart cs ≡ true → subsumed cs c ≡ false → are_apart (replaced cs c) ≡ true
replaced_apart cs c h is = apart_last (filter (λ d. not (is_within c d)) cs) c (apart_filter (λ d. not (is_within c d)) cs h) (λ d m.
    let f = filter_member (λ d. not (is_within c d)) cs d m in
    (not-true (is_within c d) f.1, false_from_ne_true (is_within d c) (λ e. false≢true (sym is ∙ any_from (λ e. is_within e c) cs d f.0 e))))

-- whether the new one is put in, or memory is wanting
pub put_apart : {T E : Type 0} (r : Result T E) (old new : List (List Lit)) (c : List Lit) → are_apart old ≡ true → subsumed old c ≡ false → OnOk r (new ≡ replaced old c) → OnErr r (new ≡ old) → are_apart new ≡ true
put_apart (Ok x) old new c h is e f = subst (λ z. are_apart z ≡ true) (sym e) (replaced_apart old c h is)
put_apart (Err x) old new c h is e f = subst (λ z. are_apart z ≡ true) (sym f) h

-- the first of clauses that are apart are so
pub apart_first : (cs ds : List (List Lit)) → are_apart (cs ++ ds) ≡ true → are_apart cs ≡ true
apart_first [] ds h = refl
apart_first (c ∷ cs) ds h =
    let parts = and_parts (list_all (λ d. not (near c d)) (cs ++ ds)) (are_apart (cs ++ ds)) h in
    and_from (list_all (λ d. not (near c d)) cs) (are_apart cs) (all_from (λ d. not (near c d)) cs (λ d m. all_member (λ d. not (near c d)) (cs ++ ds) d (member_left cs ds d m) parts.0)) (apart_first cs ds parts.1)

-- two lists that are apart are so together, where no clause of either is within one of the other
pub joined_apart : (cs ds : List (List Lit)) → are_apart cs ≡ true → are_apart ds ≡ true → ((c d : List Lit) → Member cs c → Member ds d → (is_within c d ≡ false) × (is_within d c ≡ false)) → are_apart (cs ++ ds) ≡ true
joined_apart [] ds h k far = k
joined_apart (c ∷ cs) ds h k far =
    let parts = and_parts (list_all (λ d. not (near c d)) cs) (are_apart cs) h in
    and_from (list_all (λ d. not (near c d)) (cs ++ ds)) (are_apart (cs ++ ds))
    (all_from (λ d. not (near c d)) (cs ++ ds) (λ d m. elim (append_member cs ds d m) [
      | inl r ↦ all_member (λ d. not (near c d)) cs d r parts.0
      | inr r ↦ let f = far c d (inl refl) r in rw (f.0, f.1) refl
    ]))
    (joined_apart cs ds parts.1 k (λ x d m n. far x d (inr m) n))

last_far : (cs : List (List Lit)) (c d : List Lit) → are_apart (cs ++ c ∷ []) ≡ true → Member cs d → (is_within d c ≡ false) × (is_within c d ≡ false)
last_far [] c d h m = absurd m
last_far (x ∷ cs) c d h m =
    let parts = and_parts (list_all (λ e. not (near x e)) (cs ++ c ∷ [])) (are_apart (cs ++ c ∷ [])) h in
    elim m [
      | inl e ↦ subst (λ (z : List Lit). (is_within z c ≡ false) × (is_within c z ≡ false)) e (or_parts (is_within x c) (is_within c x) (not-true (near x c) (all_member (λ e. not (near x e)) (cs ++ c ∷ []) c (member_last cs c) parts.0)))
      | inr r ↦ last_far cs c d parts.1 r
    ]

filter_all : (p : List Lit → Bool) (xs : List (List Lit)) → ((x : List Lit) → Member xs x → p x ≡ true) → filter p xs ≡ xs
filter_all p [] f = refl
filter_all p (x ∷ xs) f = rw (f x (inl refl)) (ap (λ z. x ∷ z) (filter_all p xs (λ y m. f y (inr m))))

-- a clause that is apart from all is put last
one_last : (cs : List (List Lit)) (c : List Lit) → are_apart (cs ++ c ∷ []) ≡ true → with_clause cs c ≡ cs ++ c ∷ []
one_last cs c h =
    rw (false_from_ne_true (subsumed cs c) (λ e. let r = any_member (λ d. is_within d c) cs e in false≢true (sym (last_far cs c r.0 h r.1).0 ∙ r.2)))
    (ap (λ z. z ++ c ∷ []) (filter_all (λ d. not (is_within c d)) cs (λ d m. ap not (last_far cs c d h m).1)))

-- and so are clauses that are
pub with_all_joined : (cs ds : List (List Lit)) → are_apart (cs ++ ds) ≡ true → with_all cs ds ≡ cs ++ ds
with_all_joined cs [] h = sym (append-nil cs)
with_all_joined cs (d ∷ ds) h =
    let split : (cs ++ d ∷ []) ++ ds ≡ cs ++ d ∷ ds = append_assoc cs (d ∷ []) ds in
    let h' : are_apart ((cs ++ d ∷ []) ++ ds) ≡ true = ap are_apart split ∙ h in
    ap (λ z. with_all z ds) (one_last cs d (apart_first (cs ++ d ∷ []) ds h')) ∙ (with_all_joined (cs ++ d ∷ []) ds h' ∙ split)

-- clauses that no stored one is within come behind those that hold none of them
pub merged_apart : (cs ds : List (List Lit)) → are_apart cs ≡ true → are_apart ds ≡ true → ((d : List Lit) → Member ds d → subsumed cs d ≡ false) → are_apart (filter (λ c. not (subsumed ds c)) cs ++ ds) ≡ true
merged_apart cs ds h k free = joined_apart (filter (λ c. not (subsumed ds c)) cs) ds (apart_filter (λ c. not (subsumed ds c)) cs h) k (λ c d m n.
    let f = filter_member (λ c. not (subsumed ds c)) cs c m in (
      false_from_ne_true (is_within c d) (λ e. false≢true (sym (free d n) ∙ any_from (λ x. is_within x d) cs c f.0 e)),
      false_from_ne_true (is_within d c) (λ e. false≢true (sym (not-true (subsumed ds c) f.1) ∙ any_from (λ x. is_within x c) ds d n e)),
    ))

-- filtering by two tests is filtering by both
filter_twice : (p q r : List Lit → Bool) (xs : List (List Lit)) → ((x : List Lit) → r x ≡ not (not (p x) || not (q x))) → filter q (filter p xs) ≡ filter r xs
filter_twice p q r [] f = refl
filter_twice p q r (x ∷ xs) f = rw (f x) (go (p x) (q x) refl (filter_twice p q r xs f))
  where
    go : (a b : Bool) → q x ≡ b → filter q (filter p xs) ≡ filter r xs → filter q (cond a (x ∷ filter p xs) (filter p xs)) ≡ cond (not (not a || not b)) (x ∷ filter r xs) (filter r xs)
    go true true is rest = rw is (ap (λ z. x ∷ z) rest)
    go true false is rest = rw is rest
    go false b is rest = rest

pub merged_is : (cs ds : List (List Lit)) → are_apart ds ≡ true → ((d : List Lit) → Member ds d → subsumed cs d ≡ false) → filter (λ c. not (subsumed ds c)) cs ++ ds ≡ with_all cs ds
merged_is cs [] h free = append-nil (filter (λ c. not (subsumed [] c)) cs) ∙ filter_all (λ c. not (subsumed [] c)) cs (λ x m. refl)
merged_is cs (d ∷ ds) h free =
    sym (ap (λ z. z ++ ds) first ∙ append_assoc (filter (λ c. not (subsumed (d ∷ ds) c)) cs) (d ∷ []) ds)
    ∙ (merged_is (replaced cs d) ds parts.1 free' ∙ ap (λ b. with_all (cond b cs (replaced cs d)) ds) (sym (free d (inl refl))))
  where
    parts : (list_all (λ e. not (near d e)) ds ≡ true) × (are_apart ds ≡ true)
    parts = and_parts (list_all (λ e. not (near d e)) ds) (are_apart ds) h

    far : (e : List Lit) → Member ds e → (is_within d e ≡ false) × (is_within e d ≡ false)
    far e m = or_parts (is_within d e) (is_within e d) (not-true (near d e) (all_member (λ e. not (near d e)) ds e m parts.0))

    free' : (e : List Lit) → Member ds e → subsumed (replaced cs d) e ≡ false
    free' e m = false_from_ne_true (subsumed (replaced cs d) e) (λ t.
        let r = any_member (λ x. is_within x e) (replaced cs d) t in
        elim (append_member (filter (λ x. not (is_within d x)) cs) (d ∷ []) r.0 r.1) [
          | inl n ↦ false≢true (sym (free e (inr m)) ∙ any_from (λ x. is_within x e) cs r.0 (filter_member (λ x. not (is_within d x)) cs r.0 n).0 r.2)
          | inr n ↦ elim n [
            | inl same ↦ false≢true (sym (far e m).0 ∙ subst (λ (x : List Lit). is_within x e ≡ true) (sym same) r.2)
            | inr bad ↦ absurd bad
          ]
        ])

    stays : subsumed ds d ≡ false
    stays = false_from_ne_true (subsumed ds d) (λ t. let r = any_member (λ x. is_within x d) ds t in false≢true (sym (far r.0 r.1).1 ∙ r.2))

    both : (a b : Bool) → not (a || b) ≡ not (not (not a) || not (not b))
    both true b = refl
    both false true = refl
    both false false = refl

    first : filter (λ c. not (subsumed ds c)) (replaced cs d) ≡ filter (λ c. not (subsumed (d ∷ ds) c)) cs ++ d ∷ []
    first =
        filter-append (λ c. not (subsumed ds c)) (filter (λ x. not (is_within d x)) cs) (d ∷ [])
        ∙ (ap (λ z. z ++ filter (λ c. not (subsumed ds c)) (d ∷ [])) (filter_twice (λ x. not (is_within d x)) (λ c. not (subsumed ds c)) (λ c. not (subsumed (d ∷ ds) c)) cs (λ x. both (is_within d x) (subsumed ds x)))
        ∙ ap (λ b. filter (λ c. not (subsumed (d ∷ ds) c)) cs ++ cond (not b) (d ∷ []) []) stays)

-- where the new clause is within none, all stay
pub none_held : (cs : List (List Lit)) (c : List Lit) → list_any (is_within c) cs ≡ false → replaced cs c ≡ cs ++ c ∷ []
none_held cs c h = ap (λ z. z ++ c ∷ []) (filter_all (λ d. not (is_within c d)) cs (λ d m. ap not (false_from_ne_true (is_within c d) (λ t. false≢true (sym h ∙ any_from (is_within c) cs d m t)))))

-- one clause less is to come
pub one_less : {X : Type 0} (xs : List X) (x : X) (rest now all : List X) → now ≡ x ∷ rest → xs ++ now ≡ all → (xs ++ x ∷ []) ++ rest ≡ all
one_less xs x rest now all e h = append_assoc xs (x ∷ []) rest ∙ (ap (λ z. xs ++ z) (sym e) ∙ h)

pub with_clause_apart : (cs : List (List Lit)) (c : List Lit) → are_apart cs ≡ true → are_apart (with_clause cs c) ≡ true
with_clause_apart cs c h = go (subsumed cs c) refl
  where
    go : (b : Bool) → subsumed cs c ≡ b → are_apart (cond b cs (replaced cs c)) ≡ true
    go true is = h
    go false is = replaced_apart cs c h is

pub with_all_apart : (cs ds : List (List Lit)) → are_apart cs ≡ true → are_apart (with_all cs ds) ≡ true
with_all_apart cs [] h = h
with_all_apart cs (d ∷ ds) h = with_all_apart (with_clause cs d) ds (with_clause_apart cs d h)

-- is_within another stored clause is only the clause itself
pub apart_same : (cs : List (List Lit)) (c d : List Lit) → are_apart cs ≡ true → Member cs c → Member cs d → is_within c d ≡ true → c ≡ d
apart_same [] c d h m n in' = absurd m
apart_same (x ∷ cs) c d h m n in' =
    let parts = and_parts (list_all (λ e. not (near x e)) cs) (are_apart cs) h in
    elim m [
      | inl e ↦ elim n [
        | inl f ↦ sym e ∙ f
        | inr s ↦ absurd (false≢true (sym (not-true (near x d) (all_member (λ e. not (near x e)) cs d s parts.0)) ∙ or_left (is_within x d) (is_within d x) (subst (λ (y : List Lit). is_within y d ≡ true) (sym e) in')))
      ]
      | inr r ↦ elim n [
        | inl f ↦ absurd (false≢true (sym (not-true (near x c) (all_member (λ e. not (near x e)) cs c r parts.0)) ∙ or_right (is_within x c) (is_within c x) (subst (λ (y : List Lit). is_within c y ≡ true) (sym f) in')))
        | inr s ↦ apart_same cs c d parts.1 r s in'
      ]
    ]
