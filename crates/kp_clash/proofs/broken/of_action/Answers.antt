use Rattle.std.proofs.Common.{true, refl, sym, ◌∙◌}
use Rattle.std.proofs.lemmas.Bool.{and_from}
use Rattle.kp_base.specs.declared.ground.Effect.{Effect}
use Rattle.kp_base.specs.Lists.{Member}
use Rattle.kp_clash_exclusive.specs.Paired.{is_pair}
use Rattle.kp_clash_exclusive.specs.Settled.{stays_in}
use Rattle.kp_clash_exclusive.proofs.Public.{pair_turned, unbroken_pairs_stay, no_effect_breaks, incompatible_with_more}
use Rattle.kp_clash.proofs.broken.of_action.Goals as goal

pub returns-then-not-pre_compatible : goal.returns-then-not-pre_compatible
returns-then-not-pre_compatible c = λ p q pair.
    let none = λ (e : Effect) (m : Member c.args.action.now.effects e). no_effect_breaks (is_pair c.args.pairs.now) c.args.action.now e (incompatible_with_more (is_pair c.args.pairs.now) c.args.action.now.pre e.cond (sym c.pre_compatible.ensures ∙ c.if-not-pre_compatible.true)) in
    and_from (stays_in (is_pair c.args.pairs.now) p q c.args.action.now) true (unbroken_pairs_stay (is_pair c.args.pairs.now) (λ u v h. pair_turned c.args.pairs.now v u ∙ h) c.args.action.now none p q pair) refl

pub of_effects-requires-clause-noted : goal.of_effects-requires-clause-noted
of_effects-requires-clause-noted c = c.requires.any c.args.action.now (c.is_small.ensures c.if-is_small.true)
