-- A list can be put in order.
use Rattle.std.proofs.Common.{◌≡◌, ◌+◌, zero, suc, Bool, true, false, if◌then◌else◌, List, [], ◌∷◌, get_or, refl, subst, arith}
use Rattle.std.specs.Cmp.{IsStrictWeakOrder, on_total, nat_cmp_total}
use Rattle.std.specs.List.Sorted.{IsPermutation, IsSortedBy, IsSorted}
use Rattle.std.proofs.lemmas.List.Sorted.{IsPermutation-refl, IsPermutation-trans, IsPermutation-cons, IsPermutation-middle, IsPermutation-sym}
use Rattle.std.proofs.lemmas.List.MinMax.{ranks_by}
use Rattle.std.specs.Cmp.Lexicographic.{lists_total}
use Rattle.kp_base.specs.declared.lit.Lit.{Lit}
use Rattle.kp_base.specs.Lit.{code_of}
use Rattle.kp_base.specs.LitSet.{lits_cmp}

module _ {X : Type 0} (lt : X → X → Bool) (order : IsStrictWeakOrder lt) where
  -- behind the elements that aren't greater
  abbrev put : X → List X → List X
  put x [] = x ∷ []
  put x (y ∷ ys) = if lt y x then y ∷ put x ys else x ∷ y ∷ ys

  -- the first element isn't less than this one
  abbrev IsBelow : X → List X → Type 0
  IsBelow x [] = Unit {0}
  IsBelow x (y ∷ ys) = lt y x ≡ false

  sorted_front : (x : X) (ys : List X) → IsBelow x ys → IsSortedBy lt ys → IsSortedBy lt (x ∷ ys)
  sorted_front x [] below s k d low high = absurd (omega (arith, high))
  sorted_front x (y ∷ ys) below s zero d low high = below
  sorted_front x (y ∷ ys) below s (suc k) d low high =
      let next : suc (k + 1) ≡ suc k + 1 = omega arith in
      subst (λ m. lt (get_or (x ∷ y ∷ ys) m d) (get_or (y ∷ ys) k d) ≡ false) next (s k d (omega arith) (omega (arith, high)))

  front_below : (x : X) (ys : List X) → IsSortedBy lt (x ∷ ys) → IsBelow x ys
  front_below x [] s = tt
  front_below x (y ∷ ys) s = s 0 x (omega arith) (omega arith)

  sorted_rest : (x : X) (ys : List X) → IsSortedBy lt (x ∷ ys) → IsSortedBy lt ys
  sorted_rest x ys s k d low high =
      let next : suc k + 1 ≡ suc (k + 1) = omega arith in
      subst (λ m. lt (get_or (x ∷ ys) m d) (get_or ys k d) ≡ false) next (s (suc k) d (omega arith) (omega (arith, high)))

  below_put : (y x : X) (ys : List X) → lt x y ≡ false → IsBelow y ys → IsBelow y (put x ys)
  below_put y x [] h below = h
  below_put y x (z ∷ zs) h below = pick (lt z x)
    where
      pick : (b : Bool) → IsBelow y (if b then z ∷ put x zs else x ∷ z ∷ zs)
      pick true = below
      pick false = h

  sorted_put : (x : X) (ys : List X) → IsSortedBy lt ys → IsSortedBy lt (put x ys)
  sorted_put x [] s = sorted_front x [] tt s
  sorted_put x (y ∷ ys) s = pick (lt y x) refl (sorted_put x ys (sorted_rest y ys s))
    where
      pick : (b : Bool) → lt y x ≡ b → IsSortedBy lt (put x ys) → IsSortedBy lt (if b then y ∷ put x ys else x ∷ y ∷ ys)
      pick true is rest = sorted_front y (put x ys) (below_put y x ys (order.one_way y x is) (front_below y ys s)) rest
      pick false is rest = sorted_front x (y ∷ ys) is s

  put_permutes : (x : X) (ys : List X) → IsPermutation (x ∷ ys) (put x ys)
  put_permutes x [] = IsPermutation-refl (x ∷ [])
  put_permutes x (y ∷ ys) = pick (lt y x) (put_permutes x ys)
    where
      pick : (b : Bool) → IsPermutation (x ∷ ys) (put x ys) → IsPermutation (x ∷ y ∷ ys) (if b then y ∷ put x ys else x ∷ y ∷ ys)
      pick true rest = IsPermutation-trans (x ∷ y ∷ ys) (y ∷ x ∷ ys) (y ∷ put x ys) (IsPermutation-sym (y ∷ x ∷ ys) (x ∷ y ∷ ys) (IsPermutation-middle (y ∷ []) x ys)) (IsPermutation-cons y (x ∷ ys) (put x ys) rest)
      pick false rest = IsPermutation-refl (x ∷ y ∷ ys)

  abbrev sorted : List X → List X
  sorted [] = []
  sorted (x ∷ xs) = put x (sorted xs)

  sorted_sorted : (xs : List X) → IsSortedBy lt (sorted xs)
  sorted_sorted [] = λ k d low high. absurd (omega (arith, high))
  sorted_sorted (x ∷ xs) = sorted_put x (sorted xs) (sorted_sorted xs)

  sorted_permutes : (xs : List X) → IsPermutation xs (sorted xs)
  sorted_permutes [] = IsPermutation-refl []
  sorted_permutes (x ∷ xs) = IsPermutation-trans (x ∷ xs) (x ∷ sorted xs) (put x (sorted xs)) (IsPermutation-cons x xs (sorted xs) (sorted_permutes xs)) (put_permutes x (sorted xs))

  in_order_by : (xs : List X) → (ys : List X) × IsPermutation xs ys × IsSortedBy lt ys
  in_order_by xs = (sorted xs, sorted_permutes xs, sorted_sorted xs)

-- clauses can be put in order
pub in_order : (cs : List (List Lit)) → (ds : List (List Lit)) × IsPermutation cs ds × IsSorted lits_cmp ds
in_order = in_order_by _ (ranks_by (lists_total (on_total code_of nat_cmp_total)) (λ c. c))
