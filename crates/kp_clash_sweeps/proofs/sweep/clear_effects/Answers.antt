use Rattle.kp_clash_exclusive.specs.Paired.{is_pair}
use Rattle.kp_base.proofs.Exclusive.{compatible_under_fewer}
use Rattle.kp_base.proofs.Places.{item_member}
use Rattle.kp_clash_sweeps.proofs.sweep.clear_effects.Goals as goal

pub clear_effect-requires-clause-of_action : goal.clear_effect-requires-clause-of_action
clear_effect-requires-clause-of_action c =
    let in-items = item_member c.slice-effect-items.result.now c.loop-effect.effect-index c.effect-item.result c.loop-effect-test.true c.effect-item.is in
    rw c.slice-effect-items.ensures at in-items

pub clear_effect-requires-clause-compatible : goal.clear_effect-requires-clause-compatible
clear_effect-requires-clause-compatible c = compatible_under_fewer (is_pair c.loop-effect.pairs) (is_pair c.args.pairs.now) c.loop-effect.invariant.part c.args.action.now.pre c.requires.compatible
