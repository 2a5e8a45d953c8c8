use Rattle.std.proofs.Common.{◌≡◌, ◌++◌, map}
use Rattle.kp_ground.specs.Made.{made_effect}
use Rattle.kp_ground.proofs.numbered.taken_out.Given as goal

-- with the effects that are left come all
abbrev pub invariant-loop-made : goal.invariant-loop-made
invariant-loop-made l = l.row.items ++ map made_effect l.made-iterator ≡ map made_effect l.fn.set.keys
