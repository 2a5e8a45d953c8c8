-- No set has more clauses than there are, so that no larger size needs to be tried.
use Rattle.std.proofs.Common.{◌≡◌, ◌<◌, ◌+◌, ◌++◌, ℕ, zero, suc, Bool, List, [], ◌∷◌, map, min, length, refl, ap, ap₂, inl, inr, arith}
use Rattle.std.proofs.lemmas.Bool.{cases_lt}
use Rattle.std.proofs.lemmas.List.FromFn.{length-range_with_len}
use Rattle.std.specs.List.{range_with_len}
use Rattle.kp_cover_subsets.specs.declared.sizes.LeastSet.{LeastSet}
use Rattle.kp_cover_subsets.specs.declared.sizes.LeastSet.TheVariants.{Found, TooMany, Nothing}
use Rattle.kp_cover_subsets.specs.Subsets.{subsets, choose, first_that}
use Rattle.kp_cover_subsets.specs.Sizes.{IsPassed, ArePassed, AnswersLeast}

no_sets : (k : ℕ) (xs : List ℕ) → length xs < k → subsets k xs ≡ []
no_sets zero xs lt = absurd (omega (arith, lt))
no_sets (suc k) [] lt = refl
no_sets (suc k) (x ∷ xs) lt = ap₂ (λ a b. map (λ s. x ∷ s) a ++ b) (no_sets k xs (omega (arith, lt))) (no_sets (suc k) xs (omega (arith, lt)))

none_chosen : (n k : ℕ) → n < k → choose n k ≡ 0
none_chosen n zero lt = absurd (omega (arith, lt))
none_chosen zero (suc k) lt = refl
none_chosen (suc n) (suc k) lt = ap₂ (λ a b. a + b) (none_chosen n k (omega (arith, lt))) (none_chosen n (suc k) (omega (arith, lt)))

larger_passed : (p : List ℕ → Bool) (n limit : ℕ) (skips : Bool) (size : ℕ) → n < size → IsPassed p n limit skips size
larger_passed p n limit skips size lt = inl (
  omega (arith, none_chosen n size lt),
  ap (first_that p) (no_sets size (range_with_len 0 n) (omega (arith, length-range_with_len 0 n, lt))),
)

-- sizes up to the number of clauses tell of all sizes up to the last
pub further : (p : List ℕ → Bool) (n limit : ℕ) (skips : Bool) (first bound last : ℕ) → last ≡ min bound n → (found : LeastSet) → AnswersLeast p n limit skips first last found → AnswersLeast p n limit skips first bound found
further p n limit skips first bound last is (Found size places) l = record { in_range = (l.in_range.0, omega (arith, is, l.in_range.1)); few = l.few; first_one = l.first_one; least = l.least }
further p n limit skips first bound last is (TooMany size) l = record { in_range = (l.in_range.0, omega (arith, is, l.in_range.1)); many = l.many; stops = l.stops; before = l.before }
further p n limit skips first bound last is Nothing none = all
  where
    all : ArePassed p n limit skips first (bound + 1)
    all v from below = elim (cases_lt n v) [
      | inl lt ↦ larger_passed p n limit skips v lt
      | inr le ↦ none v from (omega (arith, is, below, le))
    ]
