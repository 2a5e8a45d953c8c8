use Rattle.std.proofs.Common.{◌≡◌, fold, map}
use Rattle.kp_ground.specs.Made.{with_made, made_effect}
use Rattle.kp_ground.proofs.numbered.put_all.Given as goal

-- the effects so far are in the set
abbrev pub invariant-loop-effect : goal.invariant-loop-effect
invariant-loop-effect l = map made_effect l.set.keys ≡ fold with_made (map made_effect l.fn.set.keys) l.yielded
