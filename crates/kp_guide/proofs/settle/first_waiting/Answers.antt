use Rattle.std.proofs.Common.{[]}
use Rattle.kp_guide.proofs.Waiting.{first_on}
use Rattle.kp_guide.proofs.settle.first_waiting.Goals as goal

-- one more waits
pub loop-number-preserved : goal.loop-number-preserved
loop-number-preserved c = first_on c.args.counts.now c.loop-number.number c.args.waits.now [] c.loop-number.waits c.loop-number.next.items c.wait.new.waits c.wait.new.next.items c.loop-number.invariant c.in_ok-wait.ensures
