use Rattle.std.proofs.Common.{length}
use Rattle.kp_guide.proofs.Waiting.{round_next}
use Rattle.kp_guide.proofs.settle.round.Goals as goal

-- one more is tried
pub loop-number-preserved : goal.loop-number-preserved
loop-number-preserved c =
    let index = c.args.index.now in
    let l = c.loop-number in
    let n = c.try_rule.new in
    round_next index.rules.items (length index.users.items) c.args.now.now l.number-index c.args.costs.now l.costs l.counts l.waits l.next.items n.costs n.counts n.waits n.next.items c.loop-number-test.true l.invariant c.in_ok-try_rule.ensures
