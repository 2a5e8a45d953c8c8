-- What is proved of tasks.
use Rattle.std.specs.Prelude.{◌≡◌, ℕ, ◌&&◌, List}
use Rattle.kp_classic.specs.declared.task.Task.{Task}
use Rattle.kp_classic.specs.Steps.{Holding, meets, runs, holding_after, succeeds}

-- operators succeed just where they run and the goal is met at their end
abbrev pub SuccessIsARun : Type 0
SuccessIsARun = (t : Task) (s : Holding) (ns : List ℕ) → succeeds t s ns ≡ (runs t s ns && meets t.goal (holding_after t s ns))
