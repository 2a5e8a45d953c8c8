use Rattle.std.proofs.Common.{ap, ◌∙◌}
use Rattle.kp_names.specs.View.{lifted_view}
use Rattle.kp_init.specs.Initial.{closed_of}
use Rattle.kp_init.proofs.formula.closed_by.Goals as goal

pub returns : goal.returns
returns c = c.in_ok-closed.ensures ∙ ap (λ p. closed_of (lifted_view p) c.args.atoms.now) c.in_ok-named.ensures
