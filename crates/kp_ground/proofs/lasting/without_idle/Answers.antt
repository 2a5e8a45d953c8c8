use Rattle.std.proofs.Common.{List, ◌+◌, ◌++◌, drop, not, filter, sym, ap, ◌∙◌}
use Rattle.kp_base.specs.declared.ground.Effect.{Effect}
use Rattle.kp_ground_semantics.specs.Ground.{is_idle}
use Rattle.kp_ground.specs.Adds.{adds_at}
use Rattle.kp_ground.proofs.LoopSteps.{drop_item}
use Rattle.kp_ground.proofs.Idle.{lasting_more}
use Rattle.kp_ground.proofs.lasting.without_idle.Goals as goal

-- the effect comes next, unless it is an idle delete
pub loop-effect-preserved : goal.loop-effect-preserved
loop-effect-preserved c =
    let es = c.args.effects.now in
    let i = c.loop-effect.effect-index in
    let e = c.effect-item.result in
    lasting_more c.args.pre.now es c.loop-effect.row c.keep.new.row e (drop (i + 1) es) (adds_at c.in_ok-adds.adds e.result.atom.0) (c.in_ok-adds.ensures e.result.atom.0) c.in_ok-keep.ensures
    ∙ (ap (λ (rest : List Effect). c.loop-effect.row ++ filter (λ d. not (is_idle c.args.pre.now es d)) rest) (sym (drop_item es i e c.loop-effect-test.true c.effect-item.is))
    ∙ c.loop-effect.invariant)
