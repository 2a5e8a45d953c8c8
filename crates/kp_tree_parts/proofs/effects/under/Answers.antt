use Rattle.std.proofs.Common.{◌∙◌, refl}
use Rattle.kp_tree_parts.proofs.Views.{eff_when}
use Rattle.kp_tree_parts.proofs.effects.under.Goals as goal

pub returns : goal.returns
returns c = eff_when _ _ ∙ rw c.in_ok-try_alloc.ensures refl
