use Rattle.std.proofs.Common.{◌≡◌, ◌++◌, drop, length}
use Rattle.kp_run_solve.specs.Operators.{acts_among}
use Rattle.kp_run_bench.proofs.judging.actions_among.Given as goal

-- with the actions among the operators that are left come all
abbrev pub invariant-loop-operator : goal.invariant-loop-operator
invariant-loop-operator l = l.numbers ++ acts_among (length l.ground.actions) (drop l.operator-index l.operators) ≡ acts_among (length l.ground.actions) l.operators
