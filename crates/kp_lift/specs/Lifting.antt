-- What is answered on a list of actions that is lifted, and which steps its operators are by name.
use Rattle.std.specs.Prelude.{◌≡◌, ◌<◌, ℕ, true, false, List, map, length, nat_lt}
use Rattle.std.specs.List.{list_all}
use Rattle.kp_base.specs.declared.ground.Ground.{Ground}
use Rattle.kp_base.specs.declared.ground.Merge.{Merge}
use Rattle.kp_base.specs.declared.ground.TagRow.{TagRow}
use Rattle.kp_base.specs.declared.ground.TagTable.{TagTable}
use Rattle.kp_base.specs.Lists.{Member}
use Rattle.kp_base.specs.Implicates.{are_below}
use Rattle.kp_base.specs.Machine.{MachineStep, accepts, stripped}
use Rattle.kp_law_tagged_machine.specs.Lifts.{lift_of, UnliftedAt}
use Rattle.kp_law_ktask.specs.Task.{task_of}
use Rattle.kp_law_ktask.specs.Accepted.{op_number, operator_step, step_at}
use Rattle.kp_lift.specs.declared.lifting.Lifting.{Lifting}
use Rattle.kp_lift.specs.declared.lifting.Lifting.TheVariants.{Lifted, Unlifted}

-- the table is on the atoms of the ground problem: it has a tag, and all that it names is there
pub record IsTableOn (g : Ground) (table : TagTable) : Type 0 where
  pub some_tag : 0 < length table.tags
  pub closures : (row : TagRow) → Member table.tags row → are_below (length g.atoms) row.closure ≡ true
  pub targets : (m : Merge) → Member table.merges m → m.target.atom.0 < length g.atoms
  pub tags : (m : Merge) (t : ℕ) → Member table.merges m → Member m.tags t → t < length table.tags

-- no list of steps that the machine accepts strips to the actions
abbrev pub HasNoLift : Ground → TagTable → List ℕ → Type 0
HasNoLift g table ns = (steps : List MachineStep) → stripped steps ≡ ns → accepts g table steps ≡ false

-- the operators of the lifted list, which is accepted; or where it fails, and then no list is accepted that strips to the actions
abbrev pub AnswersLifting : Ground → TagTable → List ℕ → Lifting → Type 0
AnswersLifting g table ns (Lifted ops) = (ops ≡ map (op_number g) (lift_of g table ns)) × (accepts g table (lift_of g table ns) ≡ true)
AnswersLifting g table ns (Unlifted k l) = UnliftedAt g table ns k l × HasNoLift g table ns

-- ---- by name

-- the step of the machine is there: an action of the ground problem, or a merge of the table
abbrev pub IsThere : Ground → TagTable → MachineStep → Type 0
IsThere g table (MachineStep.act n) = n < length g.actions
IsThere g table (MachineStep.merge m) = m < length table.merges

-- the operator of a step that is there has its step by name
abbrev pub OperatorsAreSteps : Type 0
OperatorsAreSteps = (g : Ground) (table : TagTable) (m : MachineStep) → IsThere g table m → operator_step (task_of g table) (op_number g m) ≡ step_at g table m

-- the operators of a lifted list, whose actions are there, have its steps by name
abbrev pub LiftedOperatorsAreSteps : Type 0
LiftedOperatorsAreSteps = (g : Ground) (table : TagTable) (ns : List ℕ) → list_all (λ n. nat_lt n (length g.actions)) ns ≡ true → map (operator_step (task_of g table)) (map (op_number g) (lift_of g table ns)) ≡ map (step_at g table) (lift_of g table ns)
