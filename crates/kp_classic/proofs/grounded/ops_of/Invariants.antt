use Rattle.std.proofs.Common.{◌≡◌, ◌++◌, map, drop}
use Rattle.kp_classic.specs.Grounded.{op_of}
use Rattle.kp_classic.proofs.grounded.ops_of.Given as goal

-- with the actions that are left come all
abbrev pub invariant-loop-action : goal.invariant-loop-action
invariant-loop-action l = l.row ++ map op_of (drop l.action-index l.actions) ≡ map op_of l.actions
