use Rattle.kp_base.specs.Lists.{Member}
use Rattle.kp_base.proofs.Places.{item_member}
use Rattle.kp_clash_exclusive.proofs.Public.{shrinks_further, shrinks_under_more_actions}
use Rattle.kp_clash_sweeps.proofs.sweep.sweep.Goals as goal

pub loop-action-preserved : goal.loop-action-preserved
loop-action-preserved c =
    let in-items = item_member c.slice-action-items.result.now c.loop-action.action-index c.action-item.result c.loop-action-test.true c.action-item.is in
    let in-actions : Member c.args.ground.now.actions c.action-item.result = rw c.slice-action-items.ensures at in-items in
    shrinks_further c.args.ground.now.actions c.args.pairs.now c.loop-action.pairs c.clear_action.new.pairs c.loop-action.invariant (shrinks_under_more_actions c.args.ground.now.actions c.action-item.result c.loop-action.pairs c.clear_action.new.pairs in-actions c.clear_action.ensures)
