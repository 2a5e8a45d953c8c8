use Rattle.std.proofs.Common.{◌∙◌, ap}
use Rattle.kp_names_semantics.specs.Numbered.{Eff}
use Rattle.kp_ground_flatten.specs.Nodes.{cond_view, eff_view}
use Rattle.kp_ground_flatten.proofs.Views.{eff_when}
use Rattle.kp_ground_flatten.proofs.binding.under.Goals as goal

pub returns : goal.returns
returns c = eff_when c.args.cond _ ∙ ap (λ e. Eff.when (cond_view c.args.cond) (eff_view e)) c.in_ok-try_alloc.ensures
