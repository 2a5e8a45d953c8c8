use Rattle.std.proofs.Common.{length}
use Rattle.kp_clash_exclusive.specs.Removed.{Shrinks}
use Rattle.kp_clash.proofs.settle.settle_in.Given as goal

-- what was removed so far
abbrev pub invariant-rounds : goal.invariant-rounds
invariant-rounds l = Shrinks l.ground.actions l.fn.pairs l.pairs

abbrev pub decreases-rounds : goal.decreases-rounds
decreases-rounds l = length l.pairs
