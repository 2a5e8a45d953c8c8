use Rattle.std.proofs.Common.{[], ◌∷◌, ◌++◌}
use Rattle.kp_clash_exclusive.specs.Paired.{is_pair}
use Rattle.kp_clash_exclusive.proofs.Public.{shrinks_further}
use Rattle.kp_base.proofs.Exclusive.{compatible_under_fewer}
use Rattle.kp_clash_sweeps.proofs.alone.clear_alone.Goals as goal

pub clear_block-requires-clause-compatible : goal.clear_block-requires-clause-compatible
clear_block-requires-clause-compatible c = compatible_under_fewer (is_pair c.loop.pairs) (is_pair c.args.pairs.now) c.loop.invariant.part (c.args.action.now.pre ++ c.args.effect.now.cond) c.requires.compatible

pub loop-preserved : goal.loop-preserved
loop-preserved c = shrinks_further (c.args.action.now ∷ []) c.args.pairs.now c.loop.pairs c.clear_block.new.pairs c.loop.invariant c.clear_block.ensures
