use Rattle.std.proofs.Common.{take}
use Rattle.kp_primes.specs.Held.{formula}
use Rattle.kp_tags_modes.specs.Modes.{AreMergesInTurn}
use Rattle.kp_tags_modes.proofs.modes.merges_of.Given as goal

-- the merges of the targets so far
abbrev pub invariant-loop-target : goal.invariant-loop-target
invariant-loop-target l = AreMergesInTurn l.way l.limits.sets l.ground (formula l.primes) (take l.target-index l.target-items) l.merges
