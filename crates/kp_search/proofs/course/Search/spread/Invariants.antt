use Rattle.std.proofs.Common.{◌≡◌, ◌≤◌, ◌+◌, length}
use Rattle.kp_search.specs.Turns.{Spreads}
use Rattle.kp_search.proofs.course.Search.spread.Given as goal

abbrev pub invariant-loop-op : goal.invariant-loop-op
invariant-loop-op g l =
    (l.next.facts ≡ length l.task.facts)
    × (length l.self.waiting ≤ length l.initial.self.waiting + l.op)
    × (l.self.expanded.items ≡ l.initial.self.expanded.items)
    × (l.self.estimates.items ≡ l.initial.self.estimates.items)
    × (l.self.table ≡ l.initial.self.table)
    × Spreads l.task (g.E.Estimator.may_answer l.guide l.task) l.place l.state l.initial.self l.op l.self
