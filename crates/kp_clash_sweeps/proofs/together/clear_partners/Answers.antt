use Rattle.std.proofs.Common.{[], ◌∷◌, ◌++◌}
use Rattle.kp_clash_exclusive.specs.Paired.{is_pair}
use Rattle.kp_clash_exclusive.proofs.Public.{shrinks_further}
use Rattle.kp_base.proofs.Exclusive.{compatible_under_fewer}
use Rattle.kp_clash_sweeps.proofs.together.clear_partners.Goals as goal

pub loop-lit-preserved : goal.loop-lit-preserved
loop-lit-preserved c = shrinks_further (c.args.action.now ∷ []) c.args.pairs.now c.loop-lit.pairs c.clear_freed_by.new.pairs c.loop-lit.invariant c.clear_freed_by.ensures

pub clear_freed_by-requires-clause-compatible : goal.clear_freed_by-requires-clause-compatible
clear_freed_by-requires-clause-compatible c = compatible_under_fewer (is_pair c.loop-lit.pairs) (is_pair c.args.pairs.now) c.loop-lit.invariant.part (c.args.action.now.pre ++ c.args.effect.now.cond) c.requires.compatible
