-- What makes the actions of a plan of a task work. This file serves the crate's own functions and proofs.
use Rattle.std.specs.Prelude.{◌≡◌, ℕ, true, List, length}
use Rattle.kp_base.specs.declared.ground.Ground.{Ground}
use Rattle.kp_base.specs.declared.ground.Initial.{Initial}
use Rattle.kp_base.specs.declared.ground.TagTable.{TagTable}
use Rattle.kp_base.specs.Clashes.{NeverClashes}
use Rattle.kp_base.specs.Entailed.{IsTable, AreValid}
use Rattle.kp_classic.specs.declared.task.Task.{Task}
use Rattle.kp_classic.specs.Fits.{are_below}
use Rattle.kp_classic.specs.Steps.{start, succeeds}
use Rattle.kp_law_ktask.specs.Writable.{IsWritableTask}

-- the task of a ground problem and a table can be written, the table is right, its merges are valid, and nothing clashes
pub record IsSafe (g : Ground) (i : Initial) (table : TagTable) : Type 0 where
  pub writable : IsWritableTask g table
  pub right : IsTable g i table
  pub valid : AreValid i table
  pub never_clashes : NeverClashes g i

-- the operators are those of the task, and succeed from its start
abbrev pub ArePlan : Task → List ℕ → Type 0
ArePlan t ops = (are_below (length t.ops) ops ≡ true) × (succeeds t (start t) ops ≡ true)
