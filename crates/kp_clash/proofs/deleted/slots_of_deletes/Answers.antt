use Rattle.std.proofs.Common.{◌≡◌, true, subst}
use Rattle.kp_base.specs.declared.ground.Effect.{Effect}
use Rattle.kp_clash.specs.Searching.{is_noted}
use Rattle.kp_clash.proofs.Deletes.{one_more}
use Rattle.kp_clash.proofs.deleted.slots_of_deletes.Goals as goal

-- the effect is noted, and the others are noted still
pub loop-effect-preserved : goal.loop-effect-preserved
loop-effect-preserved c =
    one_more c.loop-effect.slots c.note.new.slots c.args.effects.now c.loop-effect.effect-index c.effect-item.result c.loop-effect-test.true c.note.ensures.keeps (subst (λ (e : Effect). is_noted c.note.new.slots e ≡ true) c.effect-item.is c.note.ensures.noted) c.loop-effect.invariant
