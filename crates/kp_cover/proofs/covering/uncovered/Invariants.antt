use Rattle.std.proofs.Common.{take}
use Rattle.kp_cover.specs.Covered.{LeavesUncovered}
use Rattle.kp_cover.proofs.covering.uncovered.Given as goal

-- what is left of the targets so far
abbrev pub invariant-loop-target : goal.invariant-loop-target
invariant-loop-target l = LeavesUncovered l.relevance l.primes l.table (take l.target-index l.targets) l.left
