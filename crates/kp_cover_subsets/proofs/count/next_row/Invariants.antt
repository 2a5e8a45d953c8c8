use Rattle.kp_cover_subsets.proofs.Counting.{IsMade}
use Rattle.kp_cover_subsets.proofs.count.next_row.Given as goal

abbrev pub invariant-loop-x : goal.invariant-loop-x
invariant-loop-x l = IsMade l.fn.row l.x-items l.before l.x-index
