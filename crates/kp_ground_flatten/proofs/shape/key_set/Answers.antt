use Rattle.std.proofs.Common.{◌∙◌, ap, map}
use Rattle.kp_ground_flatten.specs.Literals.{lit_view}
use Rattle.kp_ground_flatten.proofs.shape.key_set.Goals as goal

pub returns : goal.returns
returns c = rw (c.in_ok-keys.ensures ∙ ap (map lit_view) c.as_slice.ensures.value) c.in_ok-set.ensures
