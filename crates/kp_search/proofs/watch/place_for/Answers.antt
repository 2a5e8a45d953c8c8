use Rattle.kp_search.proofs.Watching.{asks_more}
use Rattle.kp_search.proofs.watch.place_for.Goals as goal

pub loop-fact-preserved : goal.loop-fact-preserved
loop-fact-preserved c = asks_more c.args.facts.now c.args.last c.loop-fact.best c.loop-fact.fact-index c.shorter-best.result c.loop-fact-test.true c.shorter-best.ensures c.loop-fact.invariant
