use Rattle.std.proofs.Common.{◌≡◌, ◌++◌, drop, map}
use Rattle.kp_law_ktask.specs.Task.{op_of}
use Rattle.kp_ktask.proofs.operators.push_operators.Given as goal

-- with the actions that are left come all
abbrev pub invariant-loop-action : goal.invariant-loop-action
invariant-loop-action l = l.row ++ map (op_of l.atoms l.tags) (drop l.action-index l.actions) ≡ l.fn.row ++ map (op_of l.atoms l.tags) l.actions
