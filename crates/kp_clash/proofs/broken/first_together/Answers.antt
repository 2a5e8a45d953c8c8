use Rattle.std.proofs.Common.{◌≡◌, false, ◌&&◌, sym, ◌∙◌}
use Rattle.std.specs.List.{list_any}
use Rattle.kp_base.specs.declared.ground.Effect.{Effect}
use Rattle.kp_base.specs.Lists.{Member}
use Rattle.kp_base.proofs.Places.{item_member}
use Rattle.kp_clash_exclusive.specs.Paired.{is_pair}
use Rattle.kp_clash_exclusive.proofs.Public.{adds_broken}
use Rattle.kp_clash.proofs.Adding.{adds_none}
use Rattle.kp_clash.proofs.broken.first_together.Goals as goal

pub returns-then-adds_left : goal.returns-then-adds_left
returns-then-adds_left c =
    let in-items = item_member c.slice-other-items.result.now c.loop-other.other-index c.other-item.result c.loop-other-test.true c.other-item.is in
    let in-effects : Member c.args.action.now.effects c.other-item.result = rw c.slice-other-items.ensures at in-items in
    adds_broken (is_pair c.args.pairs.now) c.args.action.now c.args.effect.now c.other-item.result c.requires.of_action in-effects (sym c.adds_left.ensures ∙ c.if-adds_left.true)

-- no effect adds such an atom
pub returns-then-not-some_adds : goal.returns-then-not-some_adds
returns-then-not-some_adds c =
    let none : list_any (λ (f : Effect). f.result.positive && is_pair c.args.pairs.now c.args.effect.now.result.atom.0 f.result.atom.0) c.args.action.now.effects ≡ false = rw c.slice.ensures at (sym c.some_adds.ensures ∙ c.if-not-some_adds.true) in
    adds_none (is_pair c.args.pairs.now) c.args.action.now c.args.effect.now none
