-- What is proved of the task of a ground problem and a table.
use Rattle.std.specs.Prelude.{◌≡◌, ◌↔◌, ◌<◌, ℕ, List, Some, map, length, slice_get}
use Rattle.kp_base.specs.declared.lit.Lit.{Lit}
use Rattle.kp_base.specs.declared.ground.Ground.{Ground}
use Rattle.kp_base.specs.declared.ground.TagTable.{TagTable}
use Rattle.kp_base.specs.declared.ground.Initial.{Initial}
use Rattle.kp_base.specs.Entailed.{IsTable, AreValid}
use Rattle.kp_base.specs.Clashes.{NeverClashes}
use Rattle.kp_base.specs.Machine.{MachineStep, accepts, start as known_at_start}
use Rattle.kp_classic.specs.Fits.{IsFit}
use Rattle.kp_classic.specs.Steps.{start, succeeds}
use Rattle.kp_names_semantics.specs.Names.{is_among}
use Rattle.kp_names_semantics.specs.Steps.{Step}
use Rattle.kp_names_semantics.specs.Plans.{IsPlan}
use Rattle.kp_write.specs.Operators.{Op}
use Rattle.kp_write.specs.Facts.{fact_of}
use Rattle.kp_write.specs.Grounds.{IsOfAtom}
use Rattle.kp_write.specs.Problems.{IsTask}
use Rattle.kp_write.specs.Runs.{IsRun}
use Rattle.kp_write.specs.Named.{domain_of, problem_of}
use Rattle.kp_write.specs.Tasks.{CanBeWritten}
use Rattle.kp_law_ktask.specs.Task.{number, task_of, facts_of, start_of}
use Rattle.kp_law_ktask.specs.ByName.{goal_of, names_of, ops_of, op_at}
use Rattle.kp_law_ktask.specs.Writable.{IsWritableTask}
use Rattle.kp_law_ktask.specs.Accepted.{op_number, step_at, IsAccepted, IsStrippedTo, StripsToGroundPlan}
use Rattle.kp_law_ktask.specs.Known.{held_after, known_after}

-- ---- the task and its plans

-- it can be written
abbrev pub TaggedTasksCanBeWritten : Type 0
TaggedTasksCanBeWritten = (g : Ground) (table : TagTable) → IsWritableTask g table → CanBeWritten (task_of g table)

-- where a `u32` counts its facts and operators, it is fit to be run
abbrev pub TaggedTasksAreFit : Type 0
TaggedTasksAreFit = (g : Ground) (table : TagTable) → IsWritableTask g table → length (task_of g table).facts < 2147483648 → length (task_of g table).ops < 2147483648 → IsFit (task_of g table)

-- its facts and operators by name are a task
abbrev pub TaggedTasksAreTasks : Type 0
TaggedTasksAreTasks = (g : Ground) (table : TagTable) → IsWritableTask g table → IsTask (names_of g (facts_of g table)) (ops_of g table) (names_of g (start_of table)) (names_of g (goal_of g))

-- the runs of its operators are the lists that the machine accepts
abbrev pub RunsAreAccepted : Type 0
RunsAreAccepted = (g : Ground) (table : TagTable) → IsWritableTask g table → (steps : List Step) → IsRun (ops_of g table) (names_of g (start_of table)) (names_of g (goal_of g)) steps ↔ ((ms : List MachineStep) × IsAccepted g table steps ms)

-- so are the plans of its two texts
abbrev pub TaggedPlansAreAccepted : Type 0
TaggedPlansAreAccepted = (g : Ground) (table : TagTable) → IsWritableTask g table → (steps : List Step) → IsPlan (domain_of (task_of g table)) (problem_of (task_of g table)) steps ↔ ((ms : List MachineStep) × IsAccepted g table steps ms)

-- by number, too: the operators of steps that are there succeed from the start exactly where the machine accepts the steps
abbrev pub OperatorsDoSteps : Type 0
OperatorsDoSteps = (g : Ground) (table : TagTable) → IsWritableTask g table → (ms : List MachineStep) (os : List Op) → map (op_at g table) ms ≡ map Some os → succeeds (task_of g table) (start (task_of g table)) (map (op_number g) ms) ≡ accepts g table ms

-- steps of the machine with one step by name are one
abbrev pub StepsAreInjective : Type 0
StepsAreInjective = (g : Ground) (table : TagTable) → IsWritableTask g table → (a b : MachineStep) (step : Step) → step_at g table a ≡ Some step → step_at g table b ≡ Some step → a ≡ b

-- the steps by name of steps of the machine strip to the names of its actions
abbrev pub TaggedStepsStrip : Type 0
TaggedStepsStrip = (g : Ground) (table : TagTable) → IsWritableTask g table → (steps : List Step) (ms : List MachineStep) → map (step_at g table) ms ≡ map Some steps → IsStrippedTo g steps ms

-- where the table is right, its merges are valid and nothing clashes, each plan of the two texts strips to a ground plan
abbrev pub TaggedPlansAreSound : Type 0
TaggedPlansAreSound = (g : Ground) (i : Initial) (table : TagTable) → IsWritableTask g table → IsTable g i table → AreValid i table → NeverClashes g i → (steps : List Step) → IsPlan (domain_of (task_of g table)) (problem_of (task_of g table)) steps → StripsToGroundPlan g i steps

-- ---- facts

-- after operators from the start, the fact of a literal under a tag holds exactly where the machine knows the literal under it
abbrev pub FactsAreKnown : Type 0
FactsAreKnown = (g : Ground) (table : TagTable) → IsWritableTask g table → (ms : List MachineStep) (os : List Op) → map (op_at g table) ms ≡ map Some os → (t : ℕ) (l : Lit) → t < length table.tags → IsOfAtom g.atoms l → held_after os (is_among (names_of g (start_of table))) (fact_of g.atoms t l) ≡ known_after g table ms (known_at_start table) t l

-- each fact has its number
abbrev pub FactsAreNumbered : Type 0
FactsAreNumbered = (g : Ground) (table : TagTable) (t : ℕ) (l : Lit) → t < length table.tags → IsOfAtom g.atoms l → slice_get (facts_of g table) (number (length g.atoms) (record { tag = t; lit = l })) ≡ Some (record { tag = t; lit = l })
