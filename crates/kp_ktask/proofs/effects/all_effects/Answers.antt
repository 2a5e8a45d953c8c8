use Rattle.std.proofs.Common.{refl}
use Rattle.std.specs.List.{flat_map}
use Rattle.kp_law_ktask.specs.Task.{effects_under, effects_from}
use Rattle.kp_ktask.proofs.Rows.{effects_left}
use Rattle.kp_ktask.proofs.effects.all_effects.Goals as goal

pub loop-tag-preserved : goal.loop-tag-preserved
loop-tag-preserved c =
    effects_left (λ t. flat_map (effects_under c.args.atoms t) c.args.effects.now) (λ t k. effects_from c.args.atoms t k c.args.effects.now) (λ t k. refl) c.loop-tag.tag c.args.tags _ _ _
    c.loop-tag-test.true c.loop-tag.invariant c.in_ok-push_under.ensures
