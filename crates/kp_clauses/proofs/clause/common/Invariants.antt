use Rattle.std.proofs.Common.{◌≡◌, [], drop, fold}
use Rattle.kp_clauses.specs.Resolved.{with_if}
use Rattle.kp_clauses.proofs.clause.common.Given as goal

-- the rest goes on from the set so far
abbrev pub invariant-loop-l : goal.invariant-loop-l
invariant-loop-l l = fold (with_if l.d) l.both (drop l.l-index l.lits) ≡ fold (with_if l.d) [] l.lits
