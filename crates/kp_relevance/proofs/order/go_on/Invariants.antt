use Rattle.std.proofs.Common.{◌+◌, ◌*◌, length}
use Rattle.kp_relevance.specs.Tabled.{IsWalk, unset}
use Rattle.kp_relevance.proofs.order.go_on.Given as goal

abbrev pub invariant-tops : goal.invariant-tops
invariant-tops l = IsWalk (length l.rows) l.walk.seen l.walk.left l.walk.spare l.walk.way.items l.order.items

abbrev pub decreases-tops : goal.decreases-tops
decreases-tops l = 2 * unset l.walk.seen + length l.walk.way.items
