use Rattle.kp_guide.proofs.Waiting.{waits_on}
use Rattle.kp_guide.proofs.settle.wait_all.Goals as goal

-- one more waits
pub loop-number-preserved : goal.loop-number-preserved
loop-number-preserved c = waits_on c.args.counts.now c.args.numbers.now c.loop-number.number-index c.args.waits.now c.args.next.now.items c.loop-number.waits c.loop-number.next.items c.wait.new.waits c.wait.new.next.items c.loop-number-test.true c.loop-number.invariant c.in_ok-wait.ensures
