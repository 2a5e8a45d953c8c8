use Rattle.std.proofs.Common.{◌*◌}
use Rattle.kp_bits.proofs.Packing.{AreSameBefore}
use Rattle.kp_bits.proofs.bits.Bits.first_difference.Given as goal

-- the rows are the same before word k
abbrev pub invariant-loop-k : goal.invariant-loop-k
invariant-loop-k l = AreSameBefore l.self l.other (l.k * 64)
