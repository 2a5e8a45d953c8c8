use Rattle.std.proofs.Common.{[], ◌∷◌, ◌++◌}
use Rattle.kp_clash_exclusive.specs.Paired.{is_pair}
use Rattle.kp_clash_exclusive.proofs.Public.{shrinks_further, part_pairs_different_atoms}
use Rattle.kp_base.proofs.Exclusive.{compatible_under_fewer}
use Rattle.kp_clash_sweeps.proofs.alone.clear_word.Goals as goal

pub clear_at-requires-clause-different : goal.clear_at-requires-clause-different
clear_at-requires-clause-different c = part_pairs_different_atoms (is_pair c.loop.pairs) (is_pair c.args.pairs.now) c.loop.invariant.part c.requires.different

pub clear_at-requires-clause-compatible : goal.clear_at-requires-clause-compatible
clear_at-requires-clause-compatible c = compatible_under_fewer (is_pair c.loop.pairs) (is_pair c.args.pairs.now) c.loop.invariant.part (c.args.action.now.pre ++ c.args.effect.now.cond) c.requires.compatible

pub loop-preserved : goal.loop-preserved
loop-preserved c = shrinks_further (c.args.action.now ∷ []) c.args.pairs.now c.loop.pairs c.clear_at.new.pairs c.loop.invariant c.clear_at.ensures
