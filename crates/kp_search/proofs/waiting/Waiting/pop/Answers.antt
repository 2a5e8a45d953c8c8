use Rattle.std.specs.BinaryHeap.{heap_items}
use Rattle.kp_search.proofs.Keys.{pops_first}
use Rattle.kp_search.proofs.waiting.Waiting.pop.Goals as goal
use Rattle.kp_search.proofs.waiting.Waiting.pop.Goals.{in-Some, in-None}

pub returns-clause-some : goal.returns-clause-some
returns-clause-some c = elim c.match-pop.branch [
  | in-Some w ↦ rw (w.result-is, ← c.self.view_is) (pops_first _ (heap_items c.self.inside.heap) (heap_items c.pop.new.self) w.in-Some.ensures.permutation (w.in-Some.ensures.below_top c.self.invariant))
  | in-None w ↦ rw w.result-is tt
]
