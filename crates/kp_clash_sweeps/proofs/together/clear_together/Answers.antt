use Rattle.std.proofs.Common.{[], ◌∷◌, ◌++◌}
use Rattle.kp_clash_exclusive.proofs.Public.{shrinks_further}
use Rattle.kp_clash_exclusive.specs.Paired.{is_pair}
use Rattle.kp_base.proofs.Exclusive.{compatible_under_fewer}
use Rattle.kp_base.proofs.Places.{item_member}
use Rattle.kp_clash_sweeps.proofs.together.clear_together.Goals as goal

pub clear_both-requires-clause-other : goal.clear_both-requires-clause-other
clear_both-requires-clause-other c =
    let in-items = item_member c.slice-other-items.result.now c.loop-other.other-index c.other-item.result c.loop-other-test.true c.other-item.is in
    rw c.slice-other-items.ensures at in-items

pub loop-other-preserved : goal.loop-other-preserved
loop-other-preserved c = shrinks_further (c.args.action.now ∷ []) c.args.pairs.now c.loop-other.pairs c.clear_both.new.pairs c.loop-other.invariant c.clear_both.ensures

pub clear_both-requires-clause-compatible : goal.clear_both-requires-clause-compatible
clear_both-requires-clause-compatible c = compatible_under_fewer (is_pair c.loop-other.pairs) (is_pair c.args.pairs.now) c.loop-other.invariant.part (c.args.action.now.pre ++ c.args.effect.now.cond) c.requires.compatible
