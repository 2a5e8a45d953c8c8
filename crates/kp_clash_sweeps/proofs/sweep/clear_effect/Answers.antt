use Rattle.std.proofs.Common.{◌++◌, sym, ◌∙◌}
use Rattle.kp_clash_exclusive.specs.Paired.{is_pair}
use Rattle.kp_base.proofs.Exclusive.{compatible_under_fewer}
use Rattle.kp_clash_sweeps.proofs.sweep.clear_effect.Goals as goal

pub clear_together-requires-clause-compatible : goal.clear_together-requires-clause-compatible
clear_together-requires-clause-compatible c = compatible_under_fewer (is_pair c.clear_alone.new.pairs) (is_pair c.args.pairs.now) c.clear_alone.ensures.part (c.args.action.now.pre ++ c.args.effect.now.cond) (sym c.may_fire.ensures ∙ c.if-not-may_fire.false)

pub clear_partners-requires-clause-compatible : goal.clear_partners-requires-clause-compatible
clear_partners-requires-clause-compatible c = compatible_under_fewer (is_pair c.clear_alone.new.pairs) (is_pair c.args.pairs.now) c.clear_alone.ensures.part (c.args.action.now.pre ++ c.args.effect.now.cond) (sym c.may_fire.ensures ∙ c.if-not-may_fire.false)

pub clear_compatible-requires-clause-compatible : goal.clear_compatible-requires-clause-compatible
clear_compatible-requires-clause-compatible c = compatible_under_fewer (is_pair c.clear_alone.new.pairs) (is_pair c.args.pairs.now) c.clear_alone.ensures.part (c.args.action.now.pre ++ c.args.effect.now.cond) (sym c.may_fire.ensures ∙ c.if-not-may_fire.false)
