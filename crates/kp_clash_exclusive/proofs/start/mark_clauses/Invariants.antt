use Rattle.std.proofs.Common.{take}
use Rattle.kp_clash_exclusive.specs.Starting.{denied, IsMarkedWith}
use Rattle.kp_clash_exclusive.proofs.start.mark_clauses.Given as goal

-- the pairs that the clauses so far deny
abbrev pub invariant-loop-clause : goal.invariant-loop-clause
invariant-loop-clause l = IsMarkedWith l.atoms (denied (take l.clause-index l.clauses)) l.fn.table l.table
