use Rattle.std.proofs.Common.{List, not, sym, ap, ◌∙◌}
use Rattle.std.specs.List.{list_any}
use Rattle.kp_base.specs.declared.ground.Effect.{Effect}
use Rattle.kp_ground.proofs.Idle.{none_idle}
use Rattle.kp_ground.proofs.lasting.lasting_effects.Goals as goal

-- no effect is idle
pub returns-then-not-some_delete : goal.returns-then-not-some_delete
returns-then-not-some_delete c =
    let deletes = ap (λ (es : List Effect). list_any (λ e. not e.result.positive) es) c.slice.ensures in
    sym (none_idle c.args.pre.now c.args.effects c.args.effects (sym deletes ∙ (sym c.some_delete.ensures ∙ c.if-not-some_delete.true)))
