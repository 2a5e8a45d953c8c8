use Rattle.std.specs.BinaryHeap.{heap_items}
use Rattle.kp_search.proofs.Keys.{times_pushed}
use Rattle.kp_search.proofs.waiting.Waiting.push.Goals as goal

pub returns-clause-adds : goal.returns-clause-adds
returns-clause-adds c = rw (← c.self.view_is) (times_pushed _ _ (heap_items c.push.new.self) c.in_ok-push.ensures.permutation)
