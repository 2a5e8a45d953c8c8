-- Atoms as a set keeps them: what is found, added and sorted there.
use Rattle.std.proofs.Common.{◌≡◌, ℕ, zero, suc, ◌<◌, slice_get, ◌+◌, Bool, true, false, List, [], ◌∷◌, length, map, get_or, refl, sym, ap, subst, ◌∙◌, arith, is_lt, Ordering, Less, Equal, Greater, nat_cmp, IsSorted, bytes_eq, Vec, Global, Some, None, position, cond, not, nat_lt}
use Rattle.std.specs.List.{list_any, list_all, IsDistinct, AllByRecursion, position_or_len}
use Rattle.std.specs.Ordering.{ordering_reverse, ordering_then, is_eq}
use Rattle.std.specs.Cmp.Lexicographic.{slice_cmp, texts_ties, nat_list_cmp_total}
use Rattle.std.proofs.lemmas.Bool.{and_from, false≢true, ltb-false}
use Rattle.std.proofs.lemmas.Bool.Decides.{nat_tests}
use Rattle.std.proofs.lemmas.Cmp.{same_from_slice_cmp}
use Rattle.std.proofs.lemmas.List.Sums.{prefix_len-le-length}
use Rattle.std.proofs.lemmas.Map.Keys.{IsDistinct-head, IsDistinct-tail}
use Rattle.kp_base.proofs.Lists.{all_weaker, any_map, any_member, any_from, bool_same, member_at}
use Rattle.kp_base.specs.Atoms.{Atom, list_before, atom_before, same_atom, has_atom, number_of, kept_atom, AtomsAscend, IsPlaced}
use Rattle.kp_base.proofs.AtomOrder.{atom_before_transitive, same_atom-true, same_atom-refl}

-- ---- the order

before_is : (xs ys : List ℕ) → is_lt (slice_cmp nat_cmp xs ys) ≡ list_before xs ys
before_is xs ys = same_from_slice_cmp nat_cmp is_lt list_before refl (λ _ _. refl) (λ _ _. refl) (λ x y vs ws o e. grind (arith, nat_tests)) xs ys (slice_cmp nat_cmp xs ys) refl

-- of two lists that differ one comes first
one_first : (xs ys : List ℕ) → list_before ys xs ≡ false → bytes_eq xs ys ≡ false → list_before xs ys ≡ true
one_first xs ys later apart = sym (before_is xs ys) ∙ pick (slice_cmp nat_cmp xs ys) refl
  where
    pick : (o : Ordering) → slice_cmp nat_cmp xs ys ≡ o → is_lt o ≡ true
    pick Less is = refl
    pick Equal is = absurd (false≢true (sym apart ∙ (texts_ties xs ys ∙ ap is_eq is)))
    pick Greater is = absurd (false≢true (sym later ∙ (sym (before_is ys xs) ∙ ap is_lt (nat_list_cmp_total.antisymm ys xs ∙ ap ordering_reverse is))))

-- ---- sorted keys

module _ {K : Type 0} (seen : K → Atom) (cmp : K → K → Ordering) (eq : K → K → Bool)
    (orders : (j k : K) → is_lt (cmp j k) ≡ atom_before (seen j) (seen k)) (tells : (j k : K) → eq j k ≡ same_atom (seen j) (seen k)) where
  rest_sorted : (k : K) (ks : List K) → IsSorted cmp (k ∷ ks) → IsSorted cmp ks
  rest_sorted k ks s i d low high =
      let next : suc i + 1 ≡ suc (i + 1) = omega arith in
      subst (λ n. is_lt (cmp (get_or (k ∷ ks) n d) (get_or ks i d)) ≡ false) next (s (suc i) d (omega arith) (omega arith))

  -- sorted keys that differ are ascending atoms
  pub sorted_ascends : (ks : List K) → IsSorted cmp ks → IsDistinct eq ks → AtomsAscend (map seen ks)
  sorted_ascends [] s d = tt
  sorted_ascends (k ∷ []) s d = (refl, tt)
  sorted_ascends (k ∷ j ∷ ks) s d =
      let rest = sorted_ascends (j ∷ ks) (rest_sorted k (j ∷ ks) s) (IsDistinct-tail eq k (j ∷ ks) d) in
      let later : atom_before (seen j) (seen k) ≡ false = sym (orders j k) ∙ s 0 k (omega arith) (omega arith) in
      let apart : same_atom (seen k) (seen j) ≡ false = sym (tells k j) ∙ (IsDistinct-head eq k (j ∷ ks) d).0 in
      let first : atom_before (seen k) (seen j) ≡ true = one_first ((seen k).pred ∷ (seen k).objects) ((seen j).pred ∷ (seen j).objects) later apart in
      (and_from (atom_before (seen k) (seen j)) (list_all (atom_before (seen k)) (map seen ks)) first (all_weaker (atom_before (seen j)) (atom_before (seen k)) (map seen ks) (λ a m h. atom_before_transitive (seen k) (seen j) a first h) rest.0), rest)

  -- the same keys in another order are the same atoms
  pub reordered : (ks ls : List K) → ((q : K) → list_any (eq q) ks ≡ list_any (eq q) ls) → (a : Atom) → has_atom (map seen ks) a ≡ has_atom (map seen ls) a
  reordered ks ls same a = bool_same (has_atom (map seen ks) a) (has_atom (map seen ls) a) (moved ks ls same) (moved ls ks (λ q. sym (same q)))
    where
      found : (js : List K) → has_atom (map seen js) a ≡ list_any (λ k. same_atom a (seen k)) js
      found js = any_map seen (same_atom a) (λ k. same_atom a (seen k)) js (λ k. refl)

      moved : (is js : List K) → ((q : K) → list_any (eq q) is ≡ list_any (eq q) js) → has_atom (map seen is) a ≡ true → has_atom (map seen js) a ≡ true
      moved is js alike h =
          let here = any_member (λ k. same_atom a (seen k)) is (sym (found is) ∙ h) in
          let there = any_member (eq here.0) js (sym (alike here.0) ∙ any_from (eq here.0) is here.0 here.1 (tells here.0 here.0 ∙ same_atom-refl (seen here.0))) in
          let one : seen here.0 ≡ seen there.0 = same_atom-true (seen here.0) (seen there.0) (sym (tells here.0 there.0) ∙ there.2) in
          found js ∙ any_from (λ k. same_atom a (seen k)) js there.0 there.1 (subst (λ z. same_atom a z ≡ true) one here.2)

-- ---- the keys of the set

-- their order is that of their atoms
pub key_orders : (j k : ℕ × Vec ℕ Global) → is_lt (ordering_then (nat_cmp j.0 k.0) (slice_cmp nat_cmp j.1.items k.1.items)) ≡ atom_before (kept_atom j) (kept_atom k)
key_orders j k = before_is (j.0 ∷ j.1.items) (k.0 ∷ k.1.items)

-- ---- places

-- what stands at a place of a list
pub got : {K : Type 0} (ks : List K) (n : ℕ) (k : K) → n < length ks → k ≡ get_or ks n k → slice_get ks n ≡ Some k
got [] n k lt is = absurd (omega arith)
got (j ∷ ks) zero k lt is = ap Some (sym is)
got (j ∷ ks) (suc n) k lt is = got ks n k (omega arith) is

module _ {K : Type 0} (seen : K → Atom) where
  number_seen : (a : Atom) (ks : List K) → position_or_len (λ k. same_atom a (seen k)) ks ≡ number_of (map seen ks) a
  number_seen a [] = refl
  number_seen a (k ∷ ks) = ap (λ n. cond (not (same_atom a (seen k))) (1 + n) 0) (number_seen a ks)

  -- the place that a set finds is the number of the atom
  pub place_there : (ks : List K) (q : Atom) (n : ℕ) → position (λ k. same_atom q (seen k)) ks ≡ Some n → n ≡ number_of (map seen ks) q
  place_there ks q n h = by (nat_lt (position_or_len (λ k. same_atom q (seen k)) ks) (length ks)) h ∙ number_seen q ks
    where
      by : (b : Bool) → cond b (Some (position_or_len (λ k. same_atom q (seen k)) ks)) None ≡ Some n → n ≡ position_or_len (λ k. same_atom q (seen k)) ks
      by true e = cc
      by false e = cc

  -- and where it finds none, the number is how many atoms there are
  pub place_nowhere : (ks : List K) (q : Atom) → position (λ k. same_atom q (seen k)) ks ≡ None → length ks ≡ number_of (map seen ks) q
  place_nowhere ks q h = by (nat_lt (position_or_len (λ k. same_atom q (seen k)) ks) (length ks)) refl h ∙ number_seen q ks
    where
      by : (b : Bool) → nat_lt (position_or_len (λ k. same_atom q (seen k)) ks) (length ks) ≡ b → cond b (Some (position_or_len (λ k. same_atom q (seen k)) ks)) None ≡ None → length ks ≡ position_or_len (λ k. same_atom q (seen k)) ks
      by true t e = cc
      by false t e =
          let above = ltb-false (position_or_len (λ k. same_atom q (seen k)) ks) (length ks) t in
          let within = prefix_len-le-length (λ k. not (same_atom q (seen k))) ks in
          omega arith

  -- what is the same as the key at a place has the place as its number, where keys differ
  pub placed : (eq : K → K → Bool) → ((j k : K) → eq j k ≡ same_atom (seen j) (seen k)) → (ks : List K) (a : Atom) (n : ℕ) (k : K) → IsDistinct eq ks → slice_get ks n ≡ Some k → same_atom a (seen k) ≡ true → IsPlaced (map seen ks) n a
  placed eq tells ks a n k d at h = record { there = there ks n at; number = number ks n d at }
    where
      one : a ≡ seen k
      one = same_atom-true a (seen k) h

      there : (ks : List K) (n : ℕ) → slice_get ks n ≡ Some k → has_atom (map seen ks) a ≡ true
      there ks n at = any_map seen (same_atom a) (λ j. same_atom a (seen j)) ks (λ j. refl) ∙ any_from (λ j. same_atom a (seen j)) ks k (member_at ks n k at) h

      number : (ks : List K) (n : ℕ) → IsDistinct eq ks → slice_get ks n ≡ Some k → n ≡ number_of (map seen ks) a
      number [] n d at = cc
      number (j ∷ ks) zero d at =
          let same : j ≡ k = cc in
          sym (ap (λ b. cond (not b) (1 + number_of (map seen ks) a) 0) (subst (λ x. same_atom a (seen x) ≡ true) (sym same) h))
      number (j ∷ ks) (suc n) d at =
          let apart : same_atom a (seen j) ≡ false = other (same_atom a (seen j)) refl in
          let rest = number ks n (IsDistinct-tail eq j ks d) at in
          let next : suc n ≡ 1 + number_of (map seen ks) a = omega (arith, rest) in
          next ∙ sym (ap (λ b. cond (not b) (1 + number_of (map seen ks) a) 0) apart)
        where
          all_at : (ks : List K) (n : ℕ) → AllByRecursion (λ y. eq j y ≡ false) ks → slice_get ks n ≡ Some k → eq j k ≡ false
          all_at [] n all at = cc
          all_at (y ∷ ys) zero all at = let same : y ≡ k = cc in subst (λ x. eq j x ≡ false) same all.0
          all_at (y ∷ ys) (suc n) all at = all_at ys n all.1 at

          clash : same_atom a (seen j) ≡ true → eq j k ≡ true
          clash e = tells j k ∙ subst (λ x. same_atom x (seen k) ≡ true) (same_atom-true a (seen j) e) h

          other : (b : Bool) → same_atom a (seen j) ≡ b → same_atom a (seen j) ≡ false
          other false e = e
          other true e = absurd (false≢true (sym (all_at ks n (IsDistinct-head eq j ks d) at) ∙ clash e))
