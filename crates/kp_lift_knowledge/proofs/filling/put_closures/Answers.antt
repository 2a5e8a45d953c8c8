use Rattle.kp_lift_knowledge.proofs.Closures.{closure_noted}
use Rattle.kp_lift_knowledge.proofs.filling.put_closures.Goals as goal

-- one more closure is noted
pub loop-t-preserved : goal.loop-t-preserved
loop-t-preserved c =
    closure_noted c.args.table.now c.loop-t.table c.put_closure.new.table c.args.tags.now c.loop-t.t c.index-tags-t.result c.slice.result.now c.loop-t-test.true c.slice.ensures.value c.loop-t.invariant c.put_closure.ensures
