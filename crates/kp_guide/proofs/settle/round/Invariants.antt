use Rattle.std.proofs.Common.{drop, length}
use Rattle.kp_guide.specs.Waiting.{Rounds}
use Rattle.kp_guide.proofs.settle.round.Given as goal

-- those that are left wait still
abbrev pub invariant-loop-number : goal.invariant-loop-number
invariant-loop-number l = Rounds l.index.rules.items (length l.index.users.items) l.fn.costs l.costs l.counts l.waits (drop l.number-index l.now) l.next.items
