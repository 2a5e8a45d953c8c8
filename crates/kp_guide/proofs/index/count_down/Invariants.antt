use Rattle.std.proofs.Common.{take}
use Rattle.kp_guide.specs.Waiting.{CountsDown}
use Rattle.kp_guide.proofs.index.count_down.Given as goal

-- those so far are counted down
abbrev pub invariant-loop-number : goal.invariant-loop-number
invariant-loop-number l = CountsDown (take l.number-index l.numbers) l.fn.counts l.counts
