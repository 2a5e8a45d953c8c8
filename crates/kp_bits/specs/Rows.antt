-- Rows of truth values of one length, position by position.
use Rattle.std.specs.Prelude.{◌≡◌, ◌≢◌, ◌<◌, ℕ, Bool, true, ◌&&◌, ◌||◌, List, Some, length, slice_get, map}
use Rattle.std.specs.List.{zip}

-- at each position, whether one of the two has it true
abbrev pub either : List Bool → List Bool → List Bool
either xs ys = map (λ (p : Bool × Bool). p.0 || p.1) (zip xs ys)

-- at each position, whether both have it true
abbrev pub both : List Bool → List Bool → List Bool
both xs ys = map (λ (p : Bool × Bool). p.0 && p.1) (zip xs ys)

-- each position that is true in the first is true in the second
pub record IsSubset (xs ys : List Bool) : Type 0 where
  pub each : (i : ℕ) → slice_get xs i ≡ Some true → slice_get ys i ≡ Some true

-- the two differ at this position, and at none before it
pub record DifferFirst (xs ys : List Bool) (i : ℕ) : Type 0 where
  pub in_range : i < length xs
  pub differ : slice_get xs i ≢ slice_get ys i
  pub same_before : (j : ℕ) → j < i → slice_get xs j ≡ slice_get ys j
