-- What is proved of what searches come to.
use Rattle.std.specs.Prelude.{◌≡◌, ℕ, true, false, List, Option, length}
use Rattle.kp_base.specs.declared.ground.Ground.{Ground}
use Rattle.kp_base.specs.declared.ground.Initial.{Initial}
use Rattle.kp_base.specs.declared.ground.TagTable.{TagTable}
use Rattle.kp_base.specs.Machine.{MachineStep}
use Rattle.kp_names_semantics.specs.Steps.{Step}
use Rattle.kp_classic.specs.declared.task.Task.{Task}
use Rattle.kp_classic.specs.Fits.{IsFit, are_below}
use Rattle.kp_classic.specs.Steps.{start, succeeds}
use Rattle.kp_search.specs.declared.found.Found.{Found}
use Rattle.kp_search.specs.Ends.{Tells}
use Rattle.kp_law_ktask.specs.Task.{task_of}
use Rattle.kp_law_ktask.specs.Writable.{IsWritableTask}
use Rattle.kp_law_ktask.specs.Accepted.{IsAccepted}
use Rattle.kp_run_outcome.specs.declared.outcome.Outcome.{Outcome}
use Rattle.kp_run_solve.specs.Solving.{Finds, AreNamed, SolvesGround, SolvesClassical}

-- what the end of the search of a task that fits says of it is true
abbrev pub EndsAreTrue : Type 0
EndsAreTrue = (t : Task) (budget : ℕ) (found : Found) → IsFit t → Finds t budget found → Tells t budget found

-- a ground problem with a table comes to one outcome
abbrev pub SolvingsHaveOneOutcome : Type 0
SolvingsHaveOneOutcome = (name : Option (List ℕ)) (budget : ℕ) (g : Ground) (i : Initial) (table : TagTable) (o u : Outcome) → SolvesGround name budget g i table o → SolvesGround name budget g i table u → o ≡ u

-- so does a classical task
abbrev pub ClassicalSolvingsHaveOneOutcome : Type 0
ClassicalSolvingsHaveOneOutcome = (budget : ℕ) (g : Ground) (task : Task) (o u : Outcome) → SolvesClassical budget g task o → SolvesClassical budget g task u → o ≡ u

-- where operators of a task that can be written succeed, the machine accepts their steps, which have these names
abbrev pub NamedPlansAreAccepted : Type 0
NamedPlansAreAccepted = (g : Ground) (table : TagTable) → IsWritableTask g table → (ops : List ℕ) (written plan : List Step) → AreNamed g table ops written plan → succeeds (task_of g table) (start (task_of g table)) ops ≡ true
    → (ms : List MachineStep) × IsAccepted g table written ms

-- and where no operators succeed, the machine accepts nothing
abbrev pub NoPlanIsAccepted : Type 0
NoPlanIsAccepted = (g : Ground) (table : TagTable) → IsWritableTask g table → ((ops : List ℕ) → succeeds (task_of g table) (start (task_of g table)) ops ≡ false) → (steps : List Step) (ms : List MachineStep) → IsAccepted g table steps ms → ⊥

-- operators that are there have names
abbrev pub OperatorsHaveNames : Type 0
OperatorsHaveNames = (g : Ground) (table : TagTable) (ops : List ℕ) → are_below (length (task_of g table).ops) ops ≡ true → (written : List Step) × (plan : List Step) × AreNamed g table ops written plan
