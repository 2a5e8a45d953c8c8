use Rattle.std.specs.List.{range_with_len}
use Rattle.std.proofs.Common.{[]}
use Rattle.kp_guide.specs.Waiting.{Waits}
use Rattle.kp_guide.proofs.settle.first_waiting.Given as goal

-- those so far wait, if they lack no need
abbrev pub invariant-loop-number : goal.invariant-loop-number
invariant-loop-number l = Waits l.counts (range_with_len 0 l.number) l.fn.waits [] l.waits l.next.items
