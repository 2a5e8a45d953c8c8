-- Where searches among the sets of one size end. This file serves proofs alone.
use Rattle.std.specs.Prelude.{◌≡◌, ◌++◌, ℕ, Bool, false, List, Some, None, map, if◌then◌else◌}
use Rattle.kp_cover_subsets.specs.declared.sizes.LeastSet.{LeastSet}
use Rattle.kp_cover_subsets.specs.declared.sizes.LeastSet.TheVariants.{Found, TooMany, Nothing}
use Rattle.kp_cover_subsets.specs.Subsets.{first_that}
use Rattle.kp_cover_subsets.specs.Sizes.{IsPassed, IsLeast, HasTooMany}

-- behind some chosen places: whether a set was found, and the places then
pub record Searched (p : List ℕ → Bool) (sets : List (List ℕ)) (old : List ℕ) (found : Bool) (new : List ℕ) : Type 0 where
  pub first : first_that p (map (λ s. old ++ s) sets) ≡ (if found then Some new else None)
  pub unchanged : found ≡ false → new ≡ old

-- of one size
abbrev pub AnswersSize : (List ℕ → Bool) → ℕ → ℕ → Bool → ℕ → LeastSet → Type 0
AnswersSize p n limit skips size (Found at places) = (at ≡ size) × IsLeast p n limit skips size size at places.items
AnswersSize p n limit skips size (TooMany at) = (at ≡ size) × HasTooMany p n limit skips size size at
AnswersSize p n limit skips size Nothing = IsPassed p n limit skips size
