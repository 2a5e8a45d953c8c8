use Rattle.std.proofs.Common.{true, refl, subst, ◌∙◌, inl, inr}
use Rattle.std.proofs.lemmas.Bool.{and_from}
use Rattle.kp_base.specs.declared.ground.Effect.{Effect}
use Rattle.kp_base.specs.Lists.{Member}
use Rattle.kp_base.proofs.Places.{item_member, taken_all, taken_more}
use Rattle.kp_clash_exclusive.specs.Paired.{is_pair}
use Rattle.kp_clash_exclusive.specs.Settled.{stays_in}
use Rattle.kp_clash_exclusive.specs.Removed.{BreaksNone}
use Rattle.kp_clash_exclusive.proofs.Public.{pair_turned, unbroken_pairs_stay}
use Rattle.kp_clash.proofs.broken.of_effects.Goals as goal

pub of_effect-requires-clause-of_action : goal.of_effect-requires-clause-of_action
of_effect-requires-clause-of_action c =
    let in-items = item_member c.slice-effect-items.result.now c.loop-effect.effect-index c.effect-item.result c.loop-effect-test.true c.effect-item.is in
    rw c.slice-effect-items.ensures at in-items

pub loop-effect-preserved : goal.loop-effect-preserved
loop-effect-preserved c = λ e m.
    let here : BreaksNone (is_pair c.args.pairs.now) c.args.action.now c.effect-item.result = rw c.in_default.is at c.of_effect.ensures in
    elim (taken_more c.args.action.now.effects c.loop-effect.effect-index c.effect-item.result e (rw c.slice-effect-items.ensures at c.effect-item.is) m) [
      | inl before ↦ c.loop-effect.invariant e before
      | inr is ↦ subst (λ (f : Effect). BreaksNone (is_pair c.args.pairs.now) c.args.action.now f) is here
    ]

pub returns : goal.returns
returns c = λ p q pair.
    let none = λ (e : Effect) (m : Member c.args.action.now.effects e). c.loop-effect.invariant e (taken_all c.args.action.now.effects c.loop-effect.effect-index e (rw c.slice-effect-items.ensures at c.loop-effect-test.false) m) in
    and_from (stays_in (is_pair c.args.pairs.now) p q c.args.action.now) true (unbroken_pairs_stay (is_pair c.args.pairs.now) (λ u v h. pair_turned c.args.pairs.now v u ∙ h) c.args.action.now none p q pair) refl
