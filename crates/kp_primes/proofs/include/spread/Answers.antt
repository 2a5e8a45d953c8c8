use Rattle.kp_primes.proofs.Growing.{spread_over}
use Rattle.kp_primes.proofs.include.spread.Goals as goal

-- there are too many already
pub returns-then-len-limit : goal.returns-then-len-limit
returns-then-len-limit c = spread_over c.args.primes.now c.args.news.now c.args.lit c.loop-e.e-index c.loop-e.fresh c.args.fresh.now c.args.limit c.loop-e.invariant (rw (c.len.ensures, c.clauses-in-loop-e.ensures) at c.if-len-limit.true)
