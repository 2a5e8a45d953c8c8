use Rattle.std.proofs.Common.{reverse}
use Rattle.kp_ground_instances.proofs.Digits.{IsLeft}
use Rattle.kp_ground_instances.proofs.bindings.fill_binding.Given as goal

-- the objects of the last ranges are known
abbrev pub invariant-loop-left : goal.invariant-loop-left
invariant-loop-left l = IsLeft l.ranges l.number l.left l.rest (reverse l.objects.items)

abbrev pub decreases-loop-left : goal.decreases-loop-left
decreases-loop-left l = l.left
