use Rattle.std.proofs.Common.{◌≡◌, ◌≤◌, drop, length}
use Rattle.kp_clauses.specs.Walked.{walked}
use Rattle.kp_clauses.proofs.clause.is_walked.Given as goal

-- the walk goes on from the literals so far
abbrev pub invariant-loop-y : goal.invariant-loop-y
invariant-loop-y l = record { goes_on : walked l.left (drop l.at l.c) (drop l.y-index l.d) ≡ walked l.fn.spare l.c l.d; in_range : l.at ≤ length l.c }
