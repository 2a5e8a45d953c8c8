use Rattle.std.proofs.Common.{sym, ◌∙◌}
use Rattle.kp_clash_exclusive.specs.Paired.{is_pair}
use Rattle.kp_clash_exclusive.proofs.Public.{excluded_effect_adds_no_pair}
use Rattle.kp_clash.proofs.broken.adds_left.Goals as goal

pub returns-else-all_join : goal.returns-else-all_join
returns-else-all_join c =
    let none = rw c.slice.ensures.value at (sym c.all_join.ensures ∙ c.if-all_join.false) in
    c.if-all_join.false ∙ sym (excluded_effect_adds_no_pair (is_pair c.args.pairs.now) c.args.left.now c.args.action.now c.args.one.now c.args.other.now c.requires.left none)
