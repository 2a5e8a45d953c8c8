use Rattle.std.proofs.Common.{[], ◌∷◌}
use Rattle.kp_tags_modes.specs.Added.{IsOver}
use Rattle.kp_tags_modes.proofs.adding.add_over.Goals as goal

pub returns : goal.returns
returns c = record { lists = c.in_ok-tags.tags ∷ []; right = IsOver.one c.in_ok-tags.tags c.in_ok-tags.ensures; added = c.in_ok-push.ensures.ok }
