-- What a search for a plan comes to: what it finds, and what is printed of that.
use Rattle.std.specs.Prelude.{◌≡◌, ℕ, List, [], Option, Some, None, map}
use Rattle.kp_base.specs.declared.ground.Ground.{Ground}
use Rattle.kp_base.specs.declared.ground.Initial.{Initial}
use Rattle.kp_base.specs.declared.ground.TagTable.{TagTable}
use Rattle.kp_base.specs.declared.lit.Lit.{Lit}
use Rattle.kp_base.specs.Covering.{AreUncovered}
use Rattle.kp_base.specs.Machine.{MachineStep, stripped}
use Rattle.kp_names_semantics.specs.Steps.{Step}
use Rattle.kp_classic.specs.declared.task.Task.{Task}
use Rattle.kp_search.specs.declared.found.Found.{Found}
use Rattle.kp_search.specs.declared.found.Found.TheVariants.{Plan, NoPlan, Spent}
use Rattle.kp_search.specs.Ends.{HasEnd, by_added}
use Rattle.kp_plans.specs.Printed.{plan_text}
use Rattle.kp_law_ktask.specs.Task.{task_of}
use Rattle.kp_base.specs.ActionNames.{action_name}
use Rattle.kp_law_ktask.specs.Accepted.{op_number, step_at}
use Rattle.kp_run_messages.specs.Searches.{no_plan_line, no_plan_text, spent_text}
use Rattle.kp_run_outcome.specs.declared.outcome.Outcome.{Outcome}
use Rattle.kp_run_outcome.specs.declared.status.Status.TheVariants as status
use Rattle.kp_run_outcome.specs.Printing.{denies}
use Rattle.kp_words.specs.Command.{if_named}
use Rattle.kp_run_inputs.specs.Tasks.{ComesByTask}

-- ---- what is found

-- the search of a task with this budget, guided by the estimate `added`, ends so
abbrev pub Finds : Task → ℕ → Found → Type 0
Finds t budget found = HasEnd t (by_added t) budget found

-- the search of a task comes to this, where so is told of its end
pub record Searches (task : Task) (budget : ℕ) (told : Found → Outcome → Type 0) (o : Outcome) : Type 0 where
  pub found : Found
  pub finds : Finds task budget found
  pub tells : told found o

-- ---- what is printed

-- a plan is printed, and of the plan of the translation, if a name is given for it, the lines are put under that
abbrev pub solves : Option (List ℕ) → List Step → List Step → Outcome
solves name written plan = record { status = status.Done; puts = map (λ n. record { name = n; content = plan_text written }) (if_named name); text = plan_text plan }

-- the budget is spent, so many states having been expanded
abbrev pub spends : ℕ → Outcome
spends n = record { status = status.Spent; puts = []; text = spent_text n }

-- ---- `solve`

-- operators of the task of a ground problem and a table, by number: their steps by name, and the names of the actions among them
pub record AreNamed (g : Ground) (table : TagTable) (ops : List ℕ) (written plan : List Step) : Type 0 where
  pub machine : List MachineStep
  pub numbers : map (op_number g) machine ≡ ops
  pub steps_are : map (step_at g table) machine ≡ map Some written
  pub actions_are : map (action_name g) (stripped machine) ≡ map Some plan

-- what is told of what is found in that task: the actions of the plan, with all its steps put where a name is given; that there is none, and whether the table is complete; or that the budget is spent
abbrev pub TellsSolved : Option (List ℕ) → Ground → Initial → TagTable → Found → Outcome → Type 0
TellsSolved name g i table (Plan ops n) o = (written : List Step) × (plan : List Step) × AreNamed g table ops written plan × (o ≡ solves name written plan)
TellsSolved name g i table NoPlan o = (uncovered : List Lit) × AreUncovered g i table uncovered × (o ≡ denies (no_plan_text uncovered))
TellsSolved name g i table (Spent n) o = o ≡ spends n

-- a ground problem with a table is solved to this: the refusal of its task; or what is told of what the search finds
abbrev pub SolvesGround : Option (List ℕ) → ℕ → Ground → Initial → TagTable → Outcome → Type 0
SolvesGround name budget g i table o = ComesByTask g table (Searches (task_of g table) budget (TellsSolved name g i table)) o

-- ---- `classical`

-- what is told of what is found in the task of a ground problem with one initial state, whose operators are the actions
abbrev pub TellsClassical : Ground → Found → Outcome → Type 0
TellsClassical g (Plan ops n) o = (plan : List Step) × (map (action_name g) ops ≡ map Some plan) × (o ≡ solves None plan plan)
TellsClassical g NoPlan o = o ≡ denies no_plan_line
TellsClassical g (Spent n) o = o ≡ spends n

-- a task of a ground problem is solved to this
abbrev pub SolvesClassical : ℕ → Ground → Task → Outcome → Type 0
SolvesClassical budget g task o = Searches task budget (TellsClassical g) o
