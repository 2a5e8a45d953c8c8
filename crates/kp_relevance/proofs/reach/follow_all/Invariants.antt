use Rattle.std.proofs.Common.{length}
use Rattle.kp_relevance.specs.Tabled.{Grows, IsFollowed, unset}
use Rattle.kp_relevance.proofs.reach.follow_all.Given as goal

abbrev pub invariant-next : goal.invariant-next
invariant-next l = record { grows : Grows (length l.rows) l.rows l.fn.row l.row; followed : IsFollowed (length l.rows) l.rows l.row l.done }

abbrev pub decreases-next : goal.decreases-next
decreases-next l = unset l.done
