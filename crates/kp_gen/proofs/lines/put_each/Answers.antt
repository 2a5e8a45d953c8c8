use Rattle.std.proofs.Common.{◌+◌}
use Rattle.kp_gen.specs.Numbered.{numbered}
use Rattle.kp_gen.proofs.Turns.{turn}
use Rattle.kp_gen.proofs.lines.put_each.Goals as goal

pub loop-number-preserved : goal.loop-number-preserved
loop-number-preserved c = turn (numbered c.args.front.now c.args.behind.now) c.loop-number.out.items c.put_numbered.new.out.items _ c.loop-number.number (c.args.last + 1) c.loop-number-test.true c.loop-number.invariant c.in_ok-put_numbered.ensures
