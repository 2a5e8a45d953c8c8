use Rattle.std.proofs.Common.{Some, sym, ◌∙◌}
use Rattle.kp_clash_exclusive.specs.Paired.{is_pair}
use Rattle.kp_clash_exclusive.specs.Removed.{FindsAlone}
use Rattle.kp_clash_exclusive.proofs.Public.{breaks_broken, no_effect_breaks, delete_breaks_no_pair, unpaired_add_breaks_no_pair}
use Rattle.kp_clash.proofs.broken.of_effect.Goals as goal

pub returns-in-Some : goal.returns-in-Some
returns-in-Some c =
    let found : FindsAlone (is_pair c.args.pairs.now) c.args.action.now c.args.effect.now 0 (Some c.in-Some.q) = rw c.in-Some.is at c.next_alone.ensures in
    breaks_broken (is_pair c.args.pairs.now) c.args.action.now c.args.effect.now c.in-Some.q.0 c.requires.of_action found.0

pub returns-then-not-may_fire : goal.returns-then-not-may_fire
returns-then-not-may_fire c = no_effect_breaks (is_pair c.args.pairs.now) c.args.action.now c.args.effect.now (sym c.may_fire.ensures ∙ c.if-not-may_fire.true)

pub returns-then-not-effect : goal.returns-then-not-effect
returns-then-not-effect c = delete_breaks_no_pair (is_pair c.args.pairs.now) c.args.action.now c.args.effect.now c.if-not-effect.true

pub returns-then-is_alone : goal.returns-then-is_alone
returns-then-is_alone c = unpaired_add_breaks_no_pair (is_pair c.args.pairs.now) c.args.action.now c.args.effect.now (c.requires.alone c.args.effect.now.result.atom.0 (c.is_alone.ensures c.if-is_alone.true))
