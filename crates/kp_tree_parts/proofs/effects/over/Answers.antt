use Rattle.std.proofs.Common.{◌∙◌, refl}
use Rattle.kp_tree_parts.proofs.Views.{eff_each}
use Rattle.kp_tree_parts.proofs.effects.over.Goals as goal

pub returns : goal.returns
returns c = eff_each _ _ ∙ rw c.in_ok-try_alloc.ensures refl
