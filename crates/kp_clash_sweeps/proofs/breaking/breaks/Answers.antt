use Rattle.std.proofs.Common.{sym, ◌∙◌}
use Rattle.kp_clash_exclusive.specs.Paired.{is_pair}
use Rattle.kp_clash_exclusive.proofs.Public.{pair_turned, breaks_paired, breaks_unpaired}
use Rattle.kp_clash_sweeps.proofs.breaking.breaks.Goals as goal

pub returns-then-has : goal.returns-then-has
returns-then-has c = rw c.is_against.ensures (breaks_paired (is_pair c.args.pairs.now) (pair_turned c.args.pairs.now) c.requires.different c.args.action.now c.args.effect.now c.args.q.0 c.requires.adds c.requires.compatible (sym c.has.ensures.pair ∙ c.if-has.true))

pub returns-else-has : goal.returns-else-has
returns-else-has c = rw c.if-has.false (breaks_unpaired (is_pair c.args.pairs.now) (pair_turned c.args.pairs.now) c.requires.different c.args.action.now c.args.effect.now c.args.q.0 c.requires.adds c.requires.compatible (sym c.has.ensures.pair ∙ c.if-has.false))
