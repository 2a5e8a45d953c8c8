use Rattle.kp_clauses.proofs.Sieving.{keys_more}
use Rattle.kp_clauses.proofs.sieve.choose.Goals as goal

-- one literal more
pub loop-l-preserved : goal.loop-l-preserved
loop-l-preserved c = keys_more c.slice-lits.result.now c.loop-l.l-index _ c.loop-l.best c.key.result c.shorter-best.result c.loop-l-test.true c.key.ensures c.shorter-best.ensures c.loop-l.invariant
