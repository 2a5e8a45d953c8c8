use Rattle.std.proofs.Common.{◌≡◌, ◌++◌, Some, map, drop, length}
use Rattle.kp_base.specs.ActionNames.{action_name}
use Rattle.kp_run_solve.specs.Operators.{acts_among}
use Rattle.kp_run_solve.proofs.names.actions_among.Given as goal

-- with the actions among the operators that are left come all
abbrev pub invariant-loop-operator : goal.invariant-loop-operator
invariant-loop-operator l = map Some l.names ++ map (action_name l.ground) (acts_among (length l.ground.actions) (drop l.operator-index l.operators)) ≡ map (action_name l.ground) (acts_among (length l.ground.actions) l.operators)
