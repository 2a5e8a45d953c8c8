-- How the table finds a state: by the places of its states in the order of these. This file serves proofs alone.
use Rattle.std.specs.Prelude.{◌≡◌, ◌<◌, ◌≤◌, ℕ, List, Some, length, slice_get, take}
use Rattle.std.specs.List.{AllByRecursion}
use Rattle.kp_base.specs.Lists.{Member}
use Rattle.kp_classic.specs.States.{FactSet, IsBefore}

-- the state that is so far on in the order
pub record StandsAt (states : List FactSet) (order : List ℕ) (at : ℕ) (s : FactSet) : Type 0 where
  pub place : ℕ
  pub there : slice_get order at ≡ Some place
  pub state : slice_get states place ≡ Some s

-- the order has places of states, it rises, and each state stands in it
pub record IsOrderOf (order : List ℕ) (states : List FactSet) : Type 0 where
  pub inside : (at place : ℕ) → slice_get order at ≡ Some place → place < length states
  pub rising : (at more : ℕ) (a b : FactSet) → at < more → StandsAt states order at a → StandsAt states order more b → IsBefore a b
  pub each : (s : FactSet) → Member states s → (at : ℕ) × StandsAt states order at s

-- the first states of the order are before this one
abbrev pub AreBefore : List FactSet → List ℕ → ℕ → FactSet → Type 0
AreBefore states order low s = (at : ℕ) (a : FactSet) → at < low → StandsAt states order at a → IsBefore a s

-- this state is before those from there on
abbrev pub IsBeforeRest : List FactSet → List ℕ → ℕ → FactSet → Type 0
IsBeforeRest states order high s = (at : ℕ) (a : FactSet) → high ≤ at → StandsAt states order at a → IsBefore s a

-- the gap in the order into which a state fits
pub record IsGap (states : List FactSet) (order : List ℕ) (gap : ℕ) (s : FactSet) : Type 0 where
  pub in_range : gap ≤ length order
  pub below : AreBefore states order gap s
  pub above : IsBeforeRest states order gap s

-- what a table keeps: its rows are states of so many facts, and the first of them came in, as many as the order has; the order has room for all
pub record IsWhole (facts : ℕ) (rows : List FactSet) (order : List ℕ) (capacity : ℕ) : Type 0 where
  pub alike : AllByRecursion (λ (s : FactSet). s.facts ≡ facts) rows
  pub sorted : IsOrderOf order (take (length order) rows)
  pub within : length order ≤ length rows
  pub reserved : length rows ≤ capacity
