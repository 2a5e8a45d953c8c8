use Rattle.std.proofs.Common.{take}
use Rattle.kp_guide.specs.Waiting.{Waits}
use Rattle.kp_guide.proofs.settle.wait_all.Given as goal

-- those so far wait
abbrev pub invariant-loop-number : goal.invariant-loop-number
invariant-loop-number l = Waits l.counts (take l.number-index l.numbers) l.fn.waits l.fn.next.items l.waits l.next.items
