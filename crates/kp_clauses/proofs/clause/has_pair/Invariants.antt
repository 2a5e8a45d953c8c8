use Rattle.std.proofs.Common.{◌≡◌, drop}
use Rattle.kp_clauses.specs.Walked.{has_pair}
use Rattle.kp_clauses.proofs.clause.has_pair.Given as goal

-- the rest goes on from the last literal seen
abbrev pub invariant-loop-y : goal.invariant-loop-y
invariant-loop-y l = has_pair l.last (drop l.y-index l.lits) ≡ has_pair l.fn.first l.lits
