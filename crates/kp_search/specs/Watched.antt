-- Operators by a fact that must hold for them. This file serves proofs alone.
use Rattle.std.specs.Prelude.{◌≡◌, ◌<◌, ◌⊎◌, ℕ, Bool, true, List, [], Some, get_or, length, slice_get}
use Rattle.kp_base.specs.Lists.{Member}
use Rattle.kp_classic.specs.declared.task.Task.{Task}
use Rattle.kp_classic.specs.declared.task.Op.{Op}
use Rattle.kp_classic.specs.States.{has}

-- the row of a place
abbrev pub row : List (List ℕ) → ℕ → List ℕ
row rows place = get_or rows place []

-- each of the first operators stands in the row of a fact that must hold for it, or in the row behind those of the facts
pub record AreWatched (t : Task) (count : ℕ) (rows : List (List ℕ)) : Type 0 where
  pub each : (k : ℕ) (o : Op) → k < count → slice_get t.ops k ≡ Some o → (place : ℕ) × (Member o.pre.yes place ⊎ (place ≡ length t.facts)) × Member (row rows place) k
  pub inside : (place k : ℕ) → Member (row rows place) k → k < length t.ops

-- the bits of the numbers in these rows are set
abbrev pub AreSet : List (List ℕ) → (ℕ → Type 0) → List Bool → Type 0
AreSet rows P bits = (place k : ℕ) → P place → Member (row rows place) k → slice_get bits k ≡ Some true
