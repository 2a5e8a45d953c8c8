use Rattle.kp_bits.proofs.Ranks.{CountsSoFar}
use Rattle.kp_bits.proofs.ranked.counts.Given as goal

-- the words so far are counted
abbrev pub invariant-loop-k : goal.invariant-loop-k
invariant-loop-k l = CountsSoFar l.bits l.before.items l.count l.k
