use Rattle.std.proofs.Common.{◌∙◌}
use Rattle.kp_cover.proofs.Leaving.{next_place}
use Rattle.kp_cover.proofs.left.first_places.Goals as goal

pub loop-place-preserved : goal.loop-place-preserved
loop-place-preserved c = c.in_ok-push.ensures.ok ∙ next_place c.loop-place.place c.loop-place.row c.loop-place.invariant
