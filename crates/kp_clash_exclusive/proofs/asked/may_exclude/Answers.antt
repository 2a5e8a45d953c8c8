use Rattle.std.proofs.Common.{sym, ◌∙◌}
use Rattle.kp_clash_exclusive.specs.Paired.{is_pair}
use Rattle.kp_clash_exclusive.proofs.Removing.{pair_turned}
use Rattle.kp_clash_exclusive.proofs.Excluded.{asked_free}
use Rattle.kp_clash_exclusive.proofs.asked.may_exclude.Goals as goal

pub returns-else-meets : goal.returns-else-meets
returns-else-meets c = λ none. asked_free (is_pair c.args.pairs.now) (pair_turned c.args.pairs.now) c.args.asked.now c.args.action.now.pre c.args.atom.0 c.requires (c.meets.ensures c.if-meets.false) (sym c.has.ensures ∙ none)
