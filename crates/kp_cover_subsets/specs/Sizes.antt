-- The first set that passes a test, by sizes, with a limit on how many sets of one size are tried.
use Rattle.std.specs.Prelude.{◌≡◌, ◌≤◌, ◌<◌, ◌⊎◌, ◌+◌, ℕ, Bool, true, false, List, Some, None}
use Rattle.kp_cover_subsets.specs.declared.sizes.LeastSet.{LeastSet}
use Rattle.kp_cover_subsets.specs.declared.sizes.LeastSet.TheVariants.{Found, TooMany, Nothing}
use Rattle.kp_cover_subsets.specs.Subsets.{place_sets, choose, first_that}

-- no set of this size passes; or there are more of them than the limit, and such a size is skipped
abbrev pub IsPassed : (List ℕ → Bool) → ℕ → ℕ → Bool → ℕ → Type 0
IsPassed p n limit skips size = ((choose n size ≤ limit) × (first_that p (place_sets n size) ≡ None)) ⊎ ((limit < choose n size) × (skips ≡ true))

-- all sizes from the first on, below this one, are so
abbrev pub ArePassed : (List ℕ → Bool) → ℕ → ℕ → Bool → ℕ → ℕ → Type 0
ArePassed p n limit skips first size = (v : ℕ) → first ≤ v → v < size → IsPassed p n limit skips v

-- the first set that passes, of the first size at which one does
pub record IsLeast (p : List ℕ → Bool) (n limit : ℕ) (skips : Bool) (first last size : ℕ) (places : List ℕ) : Type 0 where
  pub in_range : (first ≤ size) × (size ≤ last)
  pub few : choose n size ≤ limit
  pub first_one : first_that p (place_sets n size) ≡ Some places
  pub least : ArePassed p n limit skips first size

-- no smaller set passes, of this size there are more than the limit, and such a size isn't skipped
pub record HasTooMany (p : List ℕ → Bool) (n limit : ℕ) (skips : Bool) (first last size : ℕ) : Type 0 where
  pub in_range : (first ≤ size) × (size ≤ last)
  pub many : limit < choose n size
  pub stops : skips ≡ false
  pub before : ArePassed p n limit skips first size

-- what is answered on the sizes from a first to a last one
abbrev pub AnswersLeast : (List ℕ → Bool) → ℕ → ℕ → Bool → ℕ → ℕ → LeastSet → Type 0
AnswersLeast p n limit skips first last (Found size places) = IsLeast p n limit skips first last size places.items
AnswersLeast p n limit skips first last (TooMany size) = HasTooMany p n limit skips first last size
AnswersLeast p n limit skips first last Nothing = ArePassed p n limit skips first (last + 1)
