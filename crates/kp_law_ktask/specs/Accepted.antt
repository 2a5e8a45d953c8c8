-- The steps that the operators of a task have by name, and those of accepted lists of steps of the tagged machine.
use Rattle.std.specs.Prelude.{◌≡◌, ◌+◌, ℕ, true, List, Option, Some, option_map, map, length, slice_get}
use Rattle.kp_base.specs.declared.ground.Ground.{Ground}
use Rattle.kp_base.specs.declared.ground.TagTable.{TagTable}
use Rattle.kp_base.specs.declared.ground.Initial.{Initial}
use Rattle.kp_base.specs.ActionNames.{action_name}
use Rattle.kp_base.specs.Steps.{IsGroundPlan}
use Rattle.kp_base.specs.Machine.{MachineStep, accepts, stripped}
use Rattle.kp_names_semantics.specs.Steps.{Step}
use Rattle.kp_names_semantics.specs.Strip.{strip}
use Rattle.kp_classic.specs.declared.task.Op.{Op}
use Rattle.kp_law_ktask.specs.Task.{op_of, merge_op}
pub use Rattle.kp_write.specs.Tasks.{op_step, operator_step}

-- the operator of a step of the machine: that of its action, or of its merge
abbrev pub operator_at : Ground → TagTable → MachineStep → Option Op
operator_at g table (MachineStep.act n) = option_map (op_of (length g.atoms) (length table.tags)) (slice_get g.actions n)
operator_at g table (MachineStep.merge m) = option_map (merge_op (length g.atoms) m) (slice_get table.merges m)

-- its number: merges stand behind all actions
abbrev pub op_number : Ground → MachineStep → ℕ
op_number g (MachineStep.act n) = n
op_number g (MachineStep.merge m) = length g.actions + m

-- its step by name: the name of the operator, without objects
abbrev pub step_at : Ground → TagTable → MachineStep → Option Step
step_at g table m = option_map op_step (operator_at g table m)

-- the steps of the machine have these steps by name, and it accepts them
pub record IsAccepted (g : Ground) (table : TagTable) (steps : List Step) (ms : List MachineStep) : Type 0 where
  pub steps_are : map (step_at g table) ms ≡ map Some steps
  pub accepted : accepts g table ms ≡ true

-- the steps strip to the names of the actions of these steps of the machine
pub record IsStrippedTo (g : Ground) (steps : List Step) (ms : List MachineStep) : Type 0 where
  pub names : List Step
  pub strips : strip steps ≡ Some names
  pub are_names : map (action_name g) (stripped ms) ≡ map Some names

-- the steps strip to the names of a ground plan
pub record StripsToGroundPlan (g : Ground) (i : Initial) (steps : List Step) : Type 0 where
  pub machine : List MachineStep
  pub stripped_to : IsStrippedTo g steps machine
  pub plan : IsGroundPlan g i (stripped machine)
