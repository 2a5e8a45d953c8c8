use Rattle.kp_primes.proofs.Placing.{holders_more}
use Rattle.kp_primes.proofs.holders.Holders.extend.Goals as goal

-- one clause more
pub loop-i-preserved : goal.loop-i-preserved
loop-i-preserved c = holders_more c.args.clauses.now c.loop-i.i c.index-clauses-i.result c.loop-i.self c.push.new.self c.loop-i-test.true c.index-clauses-i.is (record { each = c.in_ok-push.ensures }) c.loop-i.invariant
