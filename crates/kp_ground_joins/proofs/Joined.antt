-- Extending bindings parameter by parameter loses no kept binding, and keeps their order.
use Rattle.std.proofs.Common.{◌≡◌, ◌<◌, ◌+◌, ℕ, zero, suc, Bool, true, false, not, cond, ◌&&◌, ◌||◌, ◌==◌, ltb-true, List, [], ◌∷◌, ◌++◌, Some, filter, flat_map, length, map, slice_get, slice_index, take, refl, sym, ap, ap₂, ◌∙◌, arith}
use Rattle.std.proofs.lemmas.Bool.{and_parts, and_from, false≢true, lt-ltb}
use Rattle.std.proofs.lemmas.List.{map-append}
use Rattle.std.specs.List.{list_all}
use Rattle.kp_base.specs.Lists.{signed, choices}
use Rattle.kp_base.proofs.Lists.{all_weaker}
use Rattle.kp_names_semantics.specs.declared.lifted.Term.{Term}
use Rattle.kp_names_semantics.specs.declared.lifted.Range.{Range}
use Rattle.kp_names_semantics.specs.Numbered.{Cond, Conds, Lifted}
use Rattle.kp_names_semantics.specs.Lifted.{Binding, bindings, object_of, literal, literal_holds}
use Rattle.kp_ground_semantics.specs.Static.{is_static, initially, settled, all_settled}
use Rattle.kp_ground_semantics.specs.Partial.{is_bound, unrefuted, all_unrefuted}
use Rattle.kp_ground_instances.proofs.Public.{choices_last}
use Rattle.kp_ground_joins.specs.Laws.{longer, PartialBindingsGoOn, KeptBindingsAreJoined}

-- ---- one range more

taken_next : {X : Type 0} (xs : List X) (i : ℕ) (x : X) → slice_get xs i ≡ Some x → take (suc i) xs ≡ take i xs ++ x ∷ []
taken_next [] i x e = absurd cc
taken_next (y ∷ ys) zero x e = let same : y ≡ x = cc in ap (λ z. z ∷ []) same
taken_next (y ∷ ys) (suc i) x e = ap (λ zs. y ∷ zs) (taken_next ys i x e)

bindings_next : (rs : List Range) (i : ℕ) (r : Range) → slice_get rs i ≡ Some r → bindings (take (suc i) rs) ≡ flat_map (longer r.objects) (bindings (take i rs))
bindings_next rs i r at =
    ap bindings (taken_next rs i r at)
    ∙ ap choices (map-append (λ (x : Range). x.objects) (take i rs) (r ∷ []))
    ∙ choices_last (map (λ (x : Range). x.objects) (take i rs)) r.objects

-- ---- a test that what is longer passes only where its front does

pub filter_append : {X : Type 0} (p : X → Bool) (xs ys : List X) → filter p (xs ++ ys) ≡ filter p xs ++ filter p ys
filter_append p [] ys = refl
filter_append p (x ∷ xs) ys = pick (p x) (filter_append p xs ys) where
  pick : (b : Bool) → filter p (xs ++ ys) ≡ filter p xs ++ filter p ys → cond b (x ∷ filter p (xs ++ ys)) (filter p (xs ++ ys)) ≡ cond b (x ∷ filter p xs) (filter p xs) ++ filter p ys
  pick true e = ap (λ zs. x ∷ zs) e
  pick false e = e

not_true : (b : Bool) → (b ≡ true → ⊥) → b ≡ false
not_true true f = absurd (f refl)
not_true false f = refl

-- no longer one passes
none_longer : (q : Binding → Bool) (b : Binding) (os : List ℕ) → ((o : ℕ) → q (b ++ o ∷ []) ≡ true → ⊥) → filter q (longer os b) ≡ []
none_longer q b [] f = refl
none_longer q b (o ∷ os) f = rw (not_true (q (b ++ o ∷ [])) (f o), none_longer q b os f) refl

-- only fronts that pass have to be made longer
fronts : (p q : Binding → Bool) → ((b : Binding) (o : ℕ) → q (b ++ o ∷ []) ≡ true → p b ≡ true) → (os : List ℕ) (bs : List Binding) → filter q (flat_map (longer os) bs) ≡ filter q (flat_map (longer os) (filter p bs))
fronts p q back os [] = refl
fronts p q back os (b ∷ bs) = filter_append q (longer os b) (flat_map (longer os) bs) ∙ pick (p b) refl (fronts p q back os bs) where
  pick : (t : Bool) → p b ≡ t → filter q (flat_map (longer os) bs) ≡ filter q (flat_map (longer os) (filter p bs)) → filter q (longer os b) ++ filter q (flat_map (longer os) bs) ≡ filter q (flat_map (longer os) (cond t (b ∷ filter p bs) (filter p bs)))
  pick true is rest = ap (λ zs. filter q (longer os b) ++ zs) rest ∙ sym (filter_append q (longer os b) (flat_map (longer os) (filter p bs)))
  pick false is rest = ap (λ zs. zs ++ filter q (flat_map (longer os) bs)) (none_longer q b os (λ o e. false≢true (sym is ∙ back b o e))) ∙ rest

-- a test that passes only where another does
filter_both : (p q : Binding → Bool) → ((b : Binding) → q b ≡ true → p b ≡ true) → (bs : List Binding) → filter q bs ≡ filter q (filter p bs)
filter_both p q weaker [] = refl
filter_both p q weaker (b ∷ bs) = pick (q b) (p b) refl refl (filter_both p q weaker bs) where
  pick : (s t : Bool) → q b ≡ s → p b ≡ t → filter q bs ≡ filter q (filter p bs) → cond s (b ∷ filter q bs) (filter q bs) ≡ filter q (cond t (b ∷ filter p bs) (filter p bs))
  pick true true is is' rest = rw is (ap (λ zs. b ∷ zs) rest)
  pick false true is is' rest = rw is rest
  pick true false is is' rest = absurd (false≢true (sym is' ∙ weaker b is))
  pick false false is is' rest = rest

-- ---- what is settled isn't refuted

or_true : (a b : Bool) → b ≡ true → (a || b) ≡ true
or_true true b h = refl
or_true false b h = h

mutual
  settled_unrefuted : (l : Lifted) (b : Binding) (c : Cond) → settled l b c ≡ true → unrefuted l b c ≡ true
  settled_unrefuted l b (Cond.all cs) h = all_settled_unrefuted l b cs h
  settled_unrefuted l b (Cond.atom positive q ts) h = weaken (is_static l q) (list_all (is_bound (length b)) ts) (literal_holds (initially l) (literal positive q ts b)) h
    where
      weaken : (s t v : Bool) → (not s || v) ≡ true → (not (s && t) || v) ≡ true
      weaken true true v h = h
      weaken true false v h = refl
      weaken false t v h = refl
  settled_unrefuted l b (Cond.same positive left right) h = or_true (not (is_bound (length b) left && is_bound (length b) right)) (signed positive (object_of b left == object_of b right)) h

  all_settled_unrefuted : (l : Lifted) (b : Binding) (cs : Conds) → all_settled l b cs ≡ true → all_unrefuted l b cs ≡ true
  all_settled_unrefuted l b Conds.no_cond h = refl
  all_settled_unrefuted l b (Conds.more_conds c cs) h =
      let parts = and_parts (settled l b c) (all_settled l b cs) h in
      and_from (unrefuted l b c) (all_unrefuted l b cs) (settled_unrefuted l b c parts.0) (all_settled_unrefuted l b cs parts.1)

-- ---- what isn't refuted with one more object isn't without it

index_left : (b : Binding) (o i : ℕ) → i < length b → slice_index (b ++ o ∷ []) i ≡ slice_index b i
index_left [] o i lt = absurd (omega (arith, lt))
index_left (x ∷ b) o zero lt = refl
index_left (x ∷ b) o (suc i) lt = index_left b o i (omega (arith, lt))

one_longer : (b : Binding) (o : ℕ) → length (b ++ o ∷ []) ≡ suc (length b)
one_longer [] o = refl
one_longer (x ∷ b) o = ap suc (one_longer b o)

object_same : (b : Binding) (o : ℕ) (t : Term) → is_bound (length b) t ≡ true → object_of (b ++ o ∷ []) t ≡ object_of b t
object_same b o (Term.Param i) h = index_left b o i (ltb-true i (length b) h)
object_same b o (Term.Object x) h = refl

still_bound : (b : Binding) (o : ℕ) (t : Term) → is_bound (length b) t ≡ true → is_bound (length (b ++ o ∷ [])) t ≡ true
still_bound b o (Term.Param i) h = let lt = ltb-true i (length b) h in let size = one_longer b o in lt-ltb i (length (b ++ o ∷ [])) (omega (arith, lt, size))
still_bound b o (Term.Object x) h = refl

objects_same : (b : Binding) (o : ℕ) (ts : List Term) → list_all (is_bound (length b)) ts ≡ true → map (object_of (b ++ o ∷ [])) ts ≡ map (object_of b) ts
objects_same b o [] h = refl
objects_same b o (t ∷ ts) h =
    let parts = and_parts (is_bound (length b) t) (list_all (is_bound (length b)) ts) h in
    ap₂ (λ (x : ℕ) (xs : List ℕ). x ∷ xs) (object_same b o t parts.0) (objects_same b o ts parts.1)

-- what is said of bound terms was said before: by cases on whether they were bound
front_true : (now before s v w : Bool) → (before ≡ true → now ≡ true) → (before ≡ true → v ≡ w) → (not (s && now) || v) ≡ true → (not (s && before) || w) ≡ true
front_true now before false v w f g h = refl
front_true now false true v w f g h = refl
front_true now true true v w f g h = sym (g refl) ∙ ap (λ x. not x || v) (sym (f refl)) ∙ h

mutual
  front_unrefuted : (l : Lifted) (b : Binding) (o : ℕ) (c : Cond) → unrefuted l (b ++ o ∷ []) c ≡ true → unrefuted l b c ≡ true
  front_unrefuted l b o (Cond.all cs) h = front_all_unrefuted l b o cs h
  front_unrefuted l b o (Cond.atom positive q ts) h =
      front_true (list_all (is_bound (length (b ++ o ∷ []))) ts) (list_all (is_bound (length b)) ts) (is_static l q) (literal_holds (initially l) (literal positive q ts (b ++ o ∷ []))) (literal_holds (initially l) (literal positive q ts b))
      (λ e. all_weaker (is_bound (length b)) (is_bound (length (b ++ o ∷ []))) ts (λ t m is. still_bound b o t is) e)
      (λ e. ap (λ (os : List ℕ). signed positive (initially l q os)) (objects_same b o ts e))
      h
  front_unrefuted l b o (Cond.same positive left right) h =
      front_true (is_bound (length (b ++ o ∷ [])) left && is_bound (length (b ++ o ∷ [])) right) (is_bound (length b) left && is_bound (length b) right) true (signed positive (object_of (b ++ o ∷ []) left == object_of (b ++ o ∷ []) right)) (signed positive (object_of b left == object_of b right))
      (λ e. let parts = and_parts (is_bound (length b) left) (is_bound (length b) right) e in and_from (is_bound (length (b ++ o ∷ [])) left) (is_bound (length (b ++ o ∷ [])) right) (still_bound b o left parts.0) (still_bound b o right parts.1))
      (λ e. let parts = and_parts (is_bound (length b) left) (is_bound (length b) right) e in ap₂ (λ (x y : ℕ). signed positive (x == y)) (object_same b o left parts.0) (object_same b o right parts.1))
      h

  front_all_unrefuted : (l : Lifted) (b : Binding) (o : ℕ) (cs : Conds) → all_unrefuted l (b ++ o ∷ []) cs ≡ true → all_unrefuted l b cs ≡ true
  front_all_unrefuted l b o Conds.no_cond h = refl
  front_all_unrefuted l b o (Conds.more_conds c cs) h =
      let parts = and_parts (unrefuted l (b ++ o ∷ []) c) (all_unrefuted l (b ++ o ∷ []) cs) h in
      and_from (unrefuted l b c) (all_unrefuted l b cs) (front_unrefuted l b o c parts.0) (front_all_unrefuted l b o cs parts.1)

-- ---- the laws

pub partial_go_on : PartialBindingsGoOn
partial_go_on l a i r at =
    ap (filter (λ b. unrefuted l b a.pre)) (bindings_next a.params i r at)
    ∙ fronts (λ b. unrefuted l b a.pre) (λ b. unrefuted l b a.pre) (λ b o e. front_unrefuted l b o a.pre e) r.objects (bindings (take i a.params))

taken_whole : {X : Type 0} (xs : List X) → take (length xs) xs ≡ xs
taken_whole [] = refl
taken_whole (x ∷ xs) = ap (λ zs. x ∷ zs) (taken_whole xs)

pub kept_joined : KeptBindingsAreJoined
kept_joined l a =
    filter_both (λ b. unrefuted l b a.pre) (λ b. settled l b a.pre) (λ b e. settled_unrefuted l b a.pre e) (bindings a.params)
    ∙ ap (λ (rs : List Range). filter (λ b. settled l b a.pre) (filter (λ b. unrefuted l b a.pre) (bindings rs))) (sym (taken_whole a.params))
