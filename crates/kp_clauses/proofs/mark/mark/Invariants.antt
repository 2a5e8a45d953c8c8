use Rattle.std.proofs.Common.{take}
use Rattle.kp_clauses.specs.Sieved.{IsMark}
use Rattle.kp_clauses.proofs.mark.mark.Given as goal

-- the mark of the literals so far
abbrev pub invariant-loop-l : goal.invariant-loop-l
invariant-loop-l l = IsMark (take l.l-index l.lits) l.word
