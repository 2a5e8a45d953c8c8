-- What is proved of the estimate `added`.
use Rattle.std.specs.Prelude.{◌≡◌, ℕ, true, List, Option, None}
use Rattle.kp_classic.specs.declared.task.Task.{Task}
use Rattle.kp_classic.specs.Fits.{IsFit}
use Rattle.kp_classic.specs.Steps.{Holding, succeeds}
use Rattle.kp_guide.specs.Added.{IsAdded}

-- of one task and one state there is one estimate
abbrev pub AddedIsOne : Type 0
AddedIsOne = (t : Task) (s : Holding) (h k : Option ℕ) → IsAdded t s h → IsAdded t s k → h ≡ k

-- of each task that fits and each state there is one
abbrev pub AddedExists : Type 0
AddedExists = (t : Task) (s : Holding) → IsFit t → (h : Option ℕ) × IsAdded t s h

-- it is None only where no operators lead to the goal
abbrev pub AddedIsRight : Type 0
AddedIsRight = (t : Task) (s : Holding) (ks : List ℕ) → IsAdded t s None → succeeds t s ks ≡ true → ⊥
