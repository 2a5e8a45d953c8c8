use Rattle.std.proofs.Common.{◌≡◌, Some, map, take}
use Rattle.kp_law_ktask.specs.Accepted.{operator_step}
use Rattle.kp_lift.proofs.steps.steps_of.Given as goal

-- the steps of the operators so far
abbrev pub invariant-loop-operator : goal.invariant-loop-operator
invariant-loop-operator l = map (operator_step l.task) (take l.operator-index l.operators) ≡ map Some l.steps
