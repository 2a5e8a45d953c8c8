use Rattle.std.proofs.Common.{[], ◌∷◌, ◌++◌}
use Rattle.kp_clash_exclusive.specs.Paired.{is_pair}
use Rattle.kp_clash_exclusive.proofs.Public.{shrinks_further}
use Rattle.kp_base.proofs.Exclusive.{compatible_under_fewer}
use Rattle.kp_clash_sweeps.proofs.together.clear_list.Goals as goal

pub loop-preserved : goal.loop-preserved
loop-preserved c = shrinks_further (c.args.action.now ∷ []) c.args.pairs.now c.loop.pairs c.clear_place.new.pairs c.loop.invariant c.clear_place.ensures

pub clear_place-requires-clause-compatible : goal.clear_place-requires-clause-compatible
clear_place-requires-clause-compatible c = compatible_under_fewer (is_pair c.loop.pairs) (is_pair c.args.pairs.now) c.loop.invariant.part (c.args.action.now.pre ++ c.args.effect.now.cond) c.requires.compatible
