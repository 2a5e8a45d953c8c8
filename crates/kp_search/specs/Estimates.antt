-- Estimates of the states of a task, of which a state may have several. This file serves proofs alone.
use Rattle.std.specs.Prelude.{◌≡◌, ℕ, List, Option, Some, length, slice_get}
use Rattle.kp_classic.specs.declared.task.Task.{Task}
use Rattle.kp_classic.specs.States.{FactSet}

-- each state of the task has at most one estimate
pub record HasOneEstimate (t : Task) (may : FactSet → Option ℕ → Type 0) : Type 0 where
  pub one : (s : FactSet) (a b : Option ℕ) → s.facts ≡ length t.facts → may s a → may s b → a ≡ b

-- each state of the task has an estimate
pub record HasEstimates (t : Task) (may : FactSet → Option ℕ → Type 0) : Type 0 where
  pub some : (s : FactSet) → s.facts ≡ length t.facts → (h : Option ℕ) × may s h

-- each estimate of a state of the task is one of the others
pub record AreAmong (t : Task) (may others : FactSet → Option ℕ → Type 0) : Type 0 where
  pub each : (s : FactSet) (h : Option ℕ) → s.facts ≡ length t.facts → may s h → others s h

-- beside each of these states stands a number at which it may be estimated
pub record AreEstimates (may : FactSet → Option ℕ → Type 0) (states : List FactSet) (estimates : List ℕ) : Type 0 where
  pub many : length estimates ≡ length states
  pub each : (k : ℕ) (s : FactSet) (h : ℕ) → slice_get states k ≡ Some s → slice_get estimates k ≡ Some h → may s (Some h)
