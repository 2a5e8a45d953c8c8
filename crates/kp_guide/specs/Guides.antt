-- What is asked of estimates that guide a search.
use Rattle.std.specs.Prelude.{◌≡◌, ℕ, true, List, Option, None, Result, Ok, length}
use Rattle.std.specs.Borrow.{Bor}
use Rattle.kp_base.specs.declared.memory.Memory.{Memory}
use Rattle.kp_classic.specs.declared.task.Task.{Task}
use Rattle.kp_classic.specs.Fits.{IsFit}
use Rattle.kp_classic.specs.States.{FactSet, has}
use Rattle.kp_classic.specs.Steps.{succeeds}

-- no operators lead from the state to the goal
abbrev pub IsHopeless : Task → FactSet → Type 0
IsHopeless t s = (ks : List ℕ) → succeeds t (has s.hold) ks ≡ true → ⊥

-- None is answered only in such a state
abbrev pub IsRight : (Task → FactSet → Option ℕ → Type 0) → Type 0
IsRight answers = (t : Task) (s : FactSet) (ks : List ℕ) → IsFit t → s.facts ≡ length t.facts → answers t s None → succeeds t (has s.hold) ks ≡ true → ⊥

-- a closure may be asked on each state of each task that fits
abbrev pub MayBeAsked : (Bor Task → Bor FactSet → Type 0) → Type 0
MayBeAsked takes = (t : Bor Task) (s : Bor FactSet) → IsFit t.now → s.now.facts ≡ length t.now.facts → takes t s

-- what a closure may answer on a state of a task
abbrev pub MayAnswer : (Bor Task → Bor FactSet → Result (Option ℕ) Memory → Type 0) → Task → FactSet → Option ℕ → Type 0
MayAnswer gives t s h = (p : Bor Task) × (q : Bor FactSet) × (p.now ≡ t) × (q.now ≡ s) × gives p q (Ok h)
