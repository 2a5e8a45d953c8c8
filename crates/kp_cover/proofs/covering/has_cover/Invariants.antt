use Rattle.std.proofs.Common.{take}
use Rattle.kp_primes.specs.Held.{formula}
use Rattle.kp_cover.specs.Covered.{HasNone}
use Rattle.kp_cover.proofs.covering.has_cover.Given as goal

-- none of the merges so far covers
abbrev pub invariant-loop-merge : goal.invariant-loop-merge
invariant-loop-merge l = HasNone (formula l.primes) l.table l.clauses l.target (take l.merge-index l.merges)
