-- A list in another order holds the same prime implicates.
use Rattle.std.proofs.Common.{◌≡◌, Bool, true, false, not, ◌||◌, List, [], ◌∷◌, refl, sym, ◌∙◌, ap}
use Rattle.std.proofs.lemmas.Bool.{and_parts, and_from, not-true}
use Rattle.std.proofs.lemmas.List.Sorted.{list_any-IsPermutation}
use Rattle.std.proofs.lemmas.Map.Keys.{IsDistinct-IsPermutation}
use Rattle.std.specs.List.{list_all, AllByRecursion, IsDistinct}
use Rattle.std.specs.List.Sorted.{IsPermutation}
use Rattle.kp_base.specs.declared.lit.Lit.{Lit}
use Rattle.kp_base.specs.Steps.{State}
use Rattle.kp_base.specs.Implicates.{is_within}
use Rattle.kp_base.proofs.Members.{permuted_member}
use Rattle.kp_clauses.specs.Stored.{are_apart}
use Rattle.kp_primes.proofs.Cover.{IsCover}

abbrev near : List Lit → List Lit → Bool
near c d = is_within c d || is_within d c

near_flips : (c d : List Lit) → near c d ≡ near d c
near_flips c d = flip (is_within c d) (is_within d c)
  where
    flip : (a b : Bool) → (a || b) ≡ (b || a)
    flip true true = refl
    flip true false = refl
    flip false true = refl
    flip false false = refl

far_all : (c : List Lit) (cs : List (List Lit)) → list_all (λ d. not (near c d)) cs ≡ true → AllByRecursion (λ d. near c d ≡ false) cs
far_all c [] h = tt
far_all c (d ∷ cs) h = let parts = and_parts (not (near c d)) (list_all (λ d. not (near c d)) cs) h in (not-true (near c d) parts.0, far_all c cs parts.1)

all_far : (c : List Lit) (cs : List (List Lit)) → AllByRecursion (λ d. near c d ≡ false) cs → list_all (λ d. not (near c d)) cs ≡ true
all_far c [] h = refl
all_far c (d ∷ cs) h = and_from (not (near c d)) (list_all (λ d. not (near c d)) cs) (ap not h.0) (all_far c cs h.1)

apart_distinct : (cs : List (List Lit)) → are_apart cs ≡ true → IsDistinct near cs
unfolding IsDistinct
apart_distinct [] h = tt
apart_distinct (c ∷ cs) h = let parts = and_parts (list_all (λ d. not (near c d)) cs) (are_apart cs) h in (far_all c cs parts.0, apart_distinct cs parts.1)

distinct_apart : (cs : List (List Lit)) → IsDistinct near cs → are_apart cs ≡ true
unfolding IsDistinct
distinct_apart [] h = refl
distinct_apart (c ∷ cs) h = and_from (list_all (λ d. not (near c d)) cs) (are_apart cs) (all_far c cs h.0) (distinct_apart cs h.1)

pub permuted_apart : (xs ys : List (List Lit)) → IsPermutation xs ys → are_apart xs ≡ true → are_apart ys ≡ true
permuted_apart xs ys perm h = distinct_apart ys (IsDistinct-IsPermutation near near_flips xs ys perm (apart_distinct xs h))

pub permuted_cover : (m : State → Bool) (xs ys : List (List Lit)) → IsPermutation xs ys → IsCover m xs → IsCover m ys
permuted_cover m xs ys perm cover = record {
  each = λ c i. cover.each c (permuted_member xs ys perm c i);
  covers = λ d proper follows. sym (list_any-IsPermutation (λ e. is_within e d) xs ys perm) ∙ cover.covers d proper follows;
}
