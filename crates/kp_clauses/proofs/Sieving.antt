-- What the lists of a sieve tell.
use Rattle.std.proofs.Common.{◌≡◌, ◌≢◌, ◌<◌, ◌+◌, ◌%◌, ℕ, zero, suc, Bool, true, false, not, ◌||◌, ◌&&◌, cond, List, [], ◌∷◌, ◌++◌, Option, Some, None, refl, sym, ◌∙◌, ap, subst, inl, inr, take, length, get_or, set, slice_get, map, fold, nat_eq, max, bit_or, arith, ◌⊎◌, get_or-set_same, get_or-set_other}
use Rattle.std.proofs.lemmas.Bool.{and_parts, and_from, or_cases, or_left, or_right, false≢true, not-true, cases_eq, eq-eqb, false_from_ne_true}
use Rattle.std.proofs.lemmas.List.{take_more, get_or_default}
use Rattle.std.proofs.lemmas.Nat.Bits.{bit_at_or, bit_at-lt, same_from_bits}
use Rattle.std.proofs.Math.Bool.{and-true, or-false, not-not}
use Rattle.std.specs.Int.{bit_at}
use Rattle.std.specs.List.{list_any}
use Rattle.kp_base.specs.declared.lit.Lit.{Lit}
use Rattle.kp_base.specs.Planning.{Member, code_of, same_lit, with_lit}
use Rattle.kp_base.specs.Steps.{has}
use Rattle.kp_base.specs.Implicates.{is_within}
use Rattle.kp_base.proofs.Lists.{bool_same, any_member, any_from, member_at, number_at, member_left, member_right, append_member, member_map, map_member, filter_member, member_filter}
use Rattle.kp_base.proofs.Lits.{has-member, member-has, same_lit-true, same_lit-refl}
use Rattle.kp_base.proofs.Sets.{any-with_lit}
use Rattle.kp_clauses.specs.declared.sieve.Spot.{Spot}
use Rattle.kp_clauses.specs.Resolved.{without, with_if, common}
use Rattle.kp_clauses.specs.Stored.{subsumed}
use Rattle.kp_clauses.specs.Sieved.{IsMark, key_of, keys, stands, passes, tried, lacks, common_at, narrowed, IsListed, AreListed, AreKept}
use Rattle.kp_clauses.specs.Listed.{row}
use Rattle.kp_clauses.proofs.Within.{within_member, within_from}

-- ---- marks

-- with one literal more
pub mark_more : (c : List Lit) (i : ℕ) (d : Lit) (old new k : ℕ) → i < length c → k ≡ code_of (get_or c i d) % 64 → bit_at new k ≡ 1 → ((j : ℕ) → j ≢ k → bit_at new j ≡ bit_at old j) → IsMark (take i c) old → IsMark (take (i + 1) c) new
mark_more c i d old new k lt is on others h = subst (λ z. IsMark z new) (sym (take_more c i d lt)) (record { has = has; from = from })
  where
    still : (j : ℕ) → bit_at old j ≡ 1 → bit_at new j ≡ 1
    still j e = elim (cases_eq j k) [ inl same ↦ subst (λ z. bit_at new z ≡ 1) (sym same) on | inr ne ↦ others j ne ∙ e ]

    has : (l : Lit) → Member (take i c ++ get_or c i d ∷ []) l → bit_at new (code_of l % 64) ≡ 1
    has l m = elim (append_member (take i c) (get_or c i d ∷ []) l m) [
      | inl r ↦ still (code_of l % 64) (h.has l r)
      | inr r ↦ elim r [ inl e ↦ subst (λ (z : Lit). bit_at new (code_of z % 64) ≡ 1) e (subst (λ z. bit_at new z ≡ 1) is on) | inr bad ↦ absurd bad ]
    ]

    from : (j : ℕ) → bit_at new j ≡ 1 → (l : Lit) × Member (take i c ++ get_or c i d ∷ []) l × (code_of l % 64 ≡ j)
    from j e = elim (cases_eq j k) [
      | inl same ↦ (get_or c i d, member_right (take i c) (get_or c i d ∷ []) (get_or c i d) (inl refl), sym is ∙ sym same)
      | inr ne ↦ let r = h.from j (sym (others j ne) ∙ e) in (r.0, member_left (take i c) (get_or c i d ∷ []) r.0 r.1, r.2)
    ]

max_keeps : (x y : ℕ) → x < 2 → y < 2 → (x ≡ 1 → y ≡ 1) → max x y ≡ y
max_keeps zero y _ _ _ = omega arith
max_keeps (suc zero) zero _ _ f = absurd (omega (arith, f refl))
max_keeps (suc zero) (suc zero) _ _ _ = omega arith
max_keeps (suc (suc x)) y h _ _ = absurd (omega (arith, h))
max_keeps (suc zero) (suc (suc y)) _ h _ = absurd (omega (arith, h))

-- a clause within another has no bit that the other hasn't
pub marks_fit : (d c : List Lit) (w v : ℕ) → IsMark d w → IsMark c v → is_within d c ≡ true → nat_eq (bit_or w v) v ≡ true
marks_fit d c w v m n inside =
    eq-eqb (bit_or w v) v (same_from_bits (bit_or w v) v (λ j.
    bit_at_or w v j
    ∙ max_keeps (bit_at w j) (bit_at v j) (bit_at-lt w j) (bit_at-lt v j) (λ one. let r = m.from j one in subst (λ z. bit_at v z ≡ 1) r.2 (n.has r.0 (within_member d c inside r.0 r.1)))))

-- ---- a clause is found

module _ (lists : List (List Spot)) (cs : List (List Lit)) (c : List Lit) (word : ℕ) (test : List Lit → Bool) where
  -- what passes stands there
  tried_any : (s : Spot) → passes cs test word s ≡ true → list_any test cs ≡ true
  tried_any s h = go (slice_get cs s.place) refl (and_parts (nat_eq (bit_or s.mark word) word) (stands test (slice_get cs s.place)) h).1
    where
      go : (o : Option (List Lit)) → slice_get cs s.place ≡ o → stands test o ≡ true → list_any test cs ≡ true
      go None e h = absurd (false≢true h)
      go (Some d) e h = any_from test cs d (member_at cs s.place d e) h

  abbrev in_list : ℕ → Bool
  in_list k = list_any (passes cs test word) (row lists k)

  listed_any : (k : ℕ) → in_list k ≡ true → list_any test cs ≡ true
  listed_any k h = let r = any_member (passes cs test word) (row lists k) h in tried_any r.0 r.2

  in_keys : (k : ℕ) → Member (keys c) k → in_list k ≡ true → (in_list 0 || list_any (λ l. in_list (key_of l)) c) ≡ true
  in_keys k m h = elim m [
    | inl e ↦ or_left (in_list 0) (list_any (λ l. in_list (key_of l)) c) (subst (λ z. in_list z ≡ true) (sym e) h)
    | inr r ↦ let l = map_member key_of c k r in or_right (in_list 0) (list_any (λ l. in_list (key_of l)) c) (any_from (λ l. in_list (key_of l)) c l.0 l.1 (subst (λ z. in_list z ≡ true) (sym l.2) h))
  ]

  own_keys : (d : List Lit) → is_within d c ≡ true → (k : ℕ) → Member (keys d) k → Member (keys c) k
  own_keys d inside k m = elim m [
    | inl e ↦ inl e
    | inr r ↦ let l = map_member key_of d k r in inr (subst (Member (map key_of c)) l.2 (member_map key_of c l.0 (within_member d c inside l.0 l.1)))
  ]

  -- a test of clauses within this one is passed by one in the lists of its literals, where any passes it
  pub sieved : AreListed lists cs → IsMark c word → ((d : List Lit) → test d ≡ true → is_within d c ≡ true) → (in_list 0 || list_any (λ l. in_list (key_of l)) c) ≡ list_any test cs
  sieved listed mark inside = bool_same (in_list 0 || list_any (λ l. in_list (key_of l)) c) (list_any test cs) to from
    where
      to : (in_list 0 || list_any (λ l. in_list (key_of l)) c) ≡ true → list_any test cs ≡ true
      to h = elim (or_cases (in_list 0) (list_any (λ l. in_list (key_of l)) c) h) [
        | inl a ↦ listed_any 0 a
        | inr a ↦ let r = any_member (λ l. in_list (key_of l)) c a in listed_any (key_of r.0) r.2
      ]

      from : list_any test cs ≡ true → (in_list 0 || list_any (λ l. in_list (key_of l)) c) ≡ true
      from h =
          let d = any_member test cs h in
          let at = number_at cs d.0 d.1 in
          let r = listed.each at.0 d.0 at.1 in
          in_keys r.key (own_keys d.0 (inside d.0 d.2) r.key r.own) (any_from (passes cs test word) (row lists r.key) r.spot r.there
          (and_from (nat_eq (bit_or r.spot.mark word) word) (stands test (slice_get cs r.spot.place)) (marks_fit d.0 c r.spot.mark word r.mark mark (inside d.0 d.2))
          (subst (λ z. stands test (slice_get cs z) ≡ true) (sym r.place) (subst (λ o. stands test o ≡ true) (sym at.1) d.2))))

-- some clause is within another one
pub subsumed_sieved : (lists : List (List Spot)) (cs : List (List Lit)) (c : List Lit) (word : ℕ) → AreListed lists cs → IsMark c word → (list_any (tried cs c word) (row lists 0) || list_any (λ l. list_any (tried cs c word) (row lists (key_of l))) c) ≡ subsumed cs c
subsumed_sieved lists cs c word listed mark = sieved lists cs c word (λ d. is_within d c) listed mark (λ d inside. inside)

-- ---- literals that are needed

has_common : (d set : List Lit) (x : Lit) → has (common set d) x ≡ (has set x && has d x)
has_common d set x = go set []
  where
    same_has : (y : Lit) (b : Bool) → same_lit x y ≡ b → (a r : Bool) → (cond (has d y) (a || b) a || (r && has d x)) ≡ (a || ((b || r) && has d x))
    same_has y true e a r = subst (λ (z : Lit). (cond (has d z) (a || true) a || (r && has d x)) ≡ (a || ((true || r) && has d x))) (same_lit-true x y e) (told a r (has d x))
      where
        told : (a r h : Bool) → (cond h (a || true) a || (r && h)) ≡ (a || h)
        told true true true = refl
        told true true false = refl
        told true false true = refl
        told true false false = refl
        told false true true = refl
        told false true false = refl
        told false false true = refl
        told false false false = refl
    same_has y false e a r = told a r (has d y) (has d x)
      where
        told : (a r g h : Bool) → (cond g (a || false) a || (r && h)) ≡ (a || (r && h))
        told true r true h = refl
        told true r false h = refl
        told false r true h = refl
        told false r false h = refl

    has_if : (acc : List Lit) (y : Lit) → has (with_if d acc y) x ≡ cond (has d y) (has acc x || same_lit x y) (has acc x)
    has_if acc y = pick (has d y)
      where
        pick : (b : Bool) → has (cond b (with_lit y acc) acc) x ≡ cond b (has acc x || same_lit x y) (has acc x)
        pick true = any-with_lit (same_lit x) y acc
        pick false = refl

    go : (ls acc : List Lit) → has (fold (with_if d) acc ls) x ≡ (has acc x || (has ls x && has d x))
    go [] acc = sym (or-false (has acc x))
    go (y ∷ ls) acc = go ls (with_if d acc y) ∙ ap (λ b. b || (has ls x && has d x)) (has_if acc y) ∙ same_has y (same_lit x y) refl (has acc x) (has ls x)

taken_twice : (a b c : Bool) → ((a && not b) && not c) ≡ (a && not (b || c))
taken_twice true true c = refl
taken_twice true false c = refl
taken_twice false b c = refl

-- literals are taken out one after another
taken_out : {X : Type 0} (f : List Lit → X → List Lit) (out : X → Bool) (x : Lit) → ((set : List Lit) (y : X) → has (f set y) x ≡ (has set x && not (out y))) → (ys : List X) (set : List Lit) → has (fold f set ys) x ≡ (has set x && not (list_any out ys))
taken_out f out x step [] set = sym (and-true (has set x))
taken_out f out x step (y ∷ ys) set = taken_out f out x step ys (f set y) ∙ (ap (λ b. b && not (list_any out ys)) (step set y) ∙ taken_twice (has set x) (out y) (list_any out ys))

module _ (lists : List (List Spot)) (cs : List (List Lit)) (c : List Lit) (word : ℕ) (x : Lit) where
  has_narrowed : (set : List Lit) (s : Spot) → has (narrowed cs c word set s) x ≡ (has set x && not (passes cs (lacks c x) word s))
  has_narrowed set s = go (nat_eq (bit_or s.mark word) word) (slice_get cs s.place)
    where
      go : (m : Bool) (o : Option (List Lit)) → has (cond (m && stands (λ d. is_within d c) o) (common_at set o) set) x ≡ (has set x && not (m && stands (lacks c x) o))
      go false o = sym (and-true (has set x))
      go true None = sym (and-true (has set x))
      go true (Some d) = within (is_within d c)
        where
          within : (b : Bool) → has (cond b (common set d) set) x ≡ (has set x && not (b && not (has d x)))
          within false = sym (and-true (has set x))
          within true = has_common d set x ∙ ap (λ b. has set x && b) (sym (not-not (has d x)))

  -- within a clause, but without the literal
  lacks_is : (d : List Lit) → lacks c x d ≡ is_within d (without x c)
  lacks_is d = bool_same (lacks c x d) (is_within d (without x c)) to from
    where
      to : lacks c x d ≡ true → is_within d (without x c) ≡ true
      to h =
          let parts = and_parts (is_within d c) (not (has d x)) h in
          within_from d (without x c) (λ y m. member_filter (λ z. not (same_lit z x)) c y (within_member d c parts.0 y m) (ap not (false_from_ne_true (same_lit y x) (λ e.
          false≢true (sym (not-true (has d x) parts.1) ∙ has-member d x (subst (Member d) (same_lit-true y x e) m))))))

      from : is_within d (without x c) ≡ true → lacks c x d ≡ true
      from h = and_from (is_within d c) (not (has d x)) (within_from d c (λ y m. (left y m).0)) (ap not (false_from_ne_true (has d x) (λ on. false≢true (sym (not-true (same_lit x x) (left x (member-has d x on)).1) ∙ same_lit-refl x))))
        where
          left : (y : Lit) → Member d y → Member c y × (not (same_lit y x) ≡ true)
          left y m = filter_member (λ z. not (same_lit z x)) c y (within_member d (without x c) h y m)

  lacking : (ds : List (List Lit)) → list_any (lacks c x) ds ≡ subsumed ds (without x c)
  lacking [] = refl
  lacking (d ∷ ds) = rw (lacks_is d, lacking ds) refl

  -- what is left in the end
  pub needed_left : AreListed lists cs → IsMark c word → has (fold (λ rest l. fold (narrowed cs c word) rest (row lists (key_of l))) (fold (narrowed cs c word) c (row lists 0)) c) x ≡ (has c x && not (subsumed cs (without x c)))
  needed_left listed mark =
      taken_out (λ rest l. fold (narrowed cs c word) rest (row lists (key_of l))) (λ l. out (row lists (key_of l))) x (λ set l. by_spots (row lists (key_of l)) set) c (fold (narrowed cs c word) c (row lists 0))
      ∙ (ap (λ b. b && not (list_any (λ l. out (row lists (key_of l))) c)) (by_spots (row lists 0) c)
      ∙ (taken_twice (has c x) (out (row lists 0)) (list_any (λ l. out (row lists (key_of l))) c)
      ∙ ap (λ b. has c x && not b) (sieved lists cs c word (lacks c x) listed mark (λ d h. (and_parts (is_within d c) (not (has d x)) h).0) ∙ lacking cs)))
    where
      out : List Spot → Bool
      out spots = list_any (passes cs (lacks c x) word) spots

      by_spots : (spots : List Spot) (set : List Lit) → has (fold (narrowed cs c word) set spots) x ≡ (has set x && not (out spots))
      by_spots = taken_out (narrowed cs c word) (passes cs (lacks c x) word) x has_narrowed

-- ---- a clause is put in

last_or_before : {X : Type 0} (xs : List X) (y x : X) (i : ℕ) → slice_get (xs ++ y ∷ []) i ≡ Some x → (slice_get xs i ≡ Some x) ⊎ ((i ≡ length xs) × (y ≡ x))
last_or_before [] y x zero h = inr (refl, cc)
last_or_before [] y x (suc i) h = absurd cc
last_or_before (z ∷ xs) y x zero h = inl h
last_or_before (z ∷ xs) y x (suc i) h = elim (last_or_before xs y x i h) [ inl r ↦ inl r | inr r ↦ inr (ap suc r.0, r.1) ]

kept_listed : (old new : List (List Spot)) (i : ℕ) (c : List Lit) → AreKept old new → IsListed old i c → IsListed new i c
kept_listed old new i c kept h = record { key = h.key; own = h.own; spot = h.spot; there = kept.each h.key h.spot h.there; place = h.place; mark = h.mark }

pub all_kept : (old new : List (List Spot)) (cs : List (List Lit)) → AreKept old new → AreListed old cs → AreListed new cs
all_kept old new cs kept h = record { each = λ i c e. kept_listed old new i c kept (h.each i c e) }

pub listed_more : (lists : List (List Spot)) (cs : List (List Lit)) (c : List Lit) (k : ℕ) (s : Spot) → AreListed lists cs → Member (keys c) k → Member (row lists k) s → s.place ≡ length cs → IsMark c s.mark → AreListed lists (cs ++ c ∷ [])
listed_more lists cs c k s h own there place mark = record {
  each = λ i x e. elim (last_or_before cs c x i e) [
    | inl r ↦ h.each i x r
    | inr r ↦ record { key = k; own = subst (λ z. Member (keys z) k) r.1 own; spot = s; there = there; place = place ∙ sym r.0; mark = subst (λ z. IsMark z s.mark) r.1 mark }
  ];
}

-- one of the lists of the literals so far
pub keys_more : (c : List Lit) (i : ℕ) (d : Lit) (best k new : ℕ) → i < length c → k ≡ key_of (get_or c i d) → (new ≡ best) ⊎ (new ≡ k) → Member (keys (take i c)) best → Member (keys (take (i + 1) c)) new
keys_more c i d best k new lt is pick m =
    subst (λ z. Member (keys z) new) (sym (take_more c i d lt)) (elim pick [
      | inl e ↦ subst (Member (keys (take i c ++ get_or c i d ∷ []))) (sym e) (elim m [
        | inl z ↦ inl z
        | inr r ↦ let l = map_member key_of (take i c) best r in inr (subst (Member (map key_of (take i c ++ get_or c i d ∷ []))) l.2 (member_map key_of (take i c ++ get_or c i d ∷ []) l.0 (member_left (take i c) (get_or c i d ∷ []) l.0 l.1)))
      ])
      | inr e ↦ subst (Member (keys (take i c ++ get_or c i d ∷ []))) (sym (e ∙ is)) (inr (member_map key_of (take i c ++ get_or c i d ∷ []) (get_or c i d) (member_right (take i c) (get_or c i d ∷ []) (get_or c i d) (inl refl))))
    ])

-- ---- a spot is put in

-- lists that are the same keep all
pub same_kept : (old new : List (List Spot)) → ((k : ℕ) → row new k ≡ row old k) → AreKept old new
same_kept old new same = record { each = λ k s m. subst (λ xs. Member xs s) (sym (same k)) m }

pub set_kept : (old lists : List (List Spot)) (k : ℕ) (s : Spot) → AreKept old lists → k < length lists → AreKept old (set lists k (row lists k ++ s ∷ [])) × Member (row (set lists k (row lists k ++ s ∷ [])) k) s
set_kept old lists k s kept lt = (record { each = λ j t m. put j t (kept.each j t m) }, subst (λ xs. Member xs s) (sym here) (member_right (row lists k) (s ∷ []) s (inl refl)))
  where
    here : row (set lists k (row lists k ++ s ∷ [])) k ≡ row lists k ++ s ∷ []
    here = get_or-set_same lists k (row lists k ++ s ∷ []) [] lt

    put : (j : ℕ) (t : Spot) → Member (row lists j) t → Member (row (set lists k (row lists k ++ s ∷ [])) j) t
    put j t m = elim (cases_eq j k) [
      | inl e ↦ subst (λ z. Member (row (set lists k (row lists k ++ s ∷ [])) z) t) (sym e) (subst (λ xs. Member xs t) (sym here) (member_left (row lists k) (s ∷ []) t (subst (λ z. Member (row lists z) t) e m)))
      | inr ne ↦ subst (λ xs. Member xs t) (sym (get_or-set_other lists k j (row lists k ++ s ∷ []) [] ne)) m
    ]

-- as a list is written back
pub noted : (old lists : List (List Spot)) (k : ℕ) (d : List Spot) (s : Spot) (was is : List Spot) → AreKept old lists → k < length lists → was ≡ get_or lists k d → is ≡ was ++ s ∷ [] → AreKept old (set lists k is) × Member (row (set lists k is) k) s
noted old lists k d s was is kept lt read put = subst (λ xs. AreKept old (set lists k xs) × Member (row (set lists k xs) k) s) (sym (put ∙ ap (λ xs. xs ++ s ∷ []) (read ∙ get_or_default lists k d [] lt))) (set_kept old lists k s kept lt)

pub keys_below : (c : List Lit) (k : ℕ) → Member (keys c) k → k < 4097
keys_below c k m = elim m [
  | inl e ↦ omega arith
  | inr r ↦ let l = map_member key_of c k r in let e = l.2 in omega arith
]

-- ---- one of two tests tells

pub by_first : (a b s r : Bool) → (a || b) ≡ s → r ≡ a → true ≡ a → r ≡ s
by_first true b s r e f g = f ∙ e
by_first false b s r e f g = absurd (false≢true (sym g))

pub by_others : (a b s t : Bool) → (a || b) ≡ s → false ≡ a → t ≡ b → t ≡ s
by_others false b s t e g h = h ∙ e
by_others true b s t e g h = absurd (false≢true g)
