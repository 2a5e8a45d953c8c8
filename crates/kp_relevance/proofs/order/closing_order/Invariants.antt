use Rattle.kp_relevance.specs.Tabled.{IsWalk}
use Rattle.kp_relevance.proofs.order.closing_order.Given as goal

abbrev pub invariant-loop-j : goal.invariant-loop-j
invariant-loop-j l = IsWalk l.n l.walk.seen l.walk.left l.walk.spare l.walk.way.items l.order.items
