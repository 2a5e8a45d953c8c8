use Rattle.std.proofs.Common.{[], ◌∷◌, ◌++◌}
use Rattle.kp_clash_exclusive.specs.Paired.{is_pair}
use Rattle.kp_clash_exclusive.proofs.Public.{shrinks_further, part_pairs_different_atoms}
use Rattle.kp_base.proofs.Exclusive.{compatible_under_fewer}
use Rattle.kp_clash_sweeps.proofs.alone.clear_block.Goals as goal

pub clear_word-requires-clause-different : goal.clear_word-requires-clause-different
clear_word-requires-clause-different c = part_pairs_different_atoms (is_pair c.loop-turn.pairs) (is_pair c.args.pairs.now) c.loop-turn.invariant.part c.atoms.ensures.different

pub clear_word-requires-clause-compatible : goal.clear_word-requires-clause-compatible
clear_word-requires-clause-compatible c = compatible_under_fewer (is_pair c.loop-turn.pairs) (is_pair c.args.pairs.now) c.loop-turn.invariant.part (c.args.action.now.pre ++ c.args.effect.now.cond) c.requires.compatible

pub loop-turn-preserved : goal.loop-turn-preserved
loop-turn-preserved c = shrinks_further (c.args.action.now ∷ []) c.args.pairs.now c.loop-turn.pairs c.clear_word.new.pairs c.loop-turn.invariant c.clear_word.ensures
