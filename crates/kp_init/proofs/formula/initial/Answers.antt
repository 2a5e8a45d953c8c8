use Rattle.std.proofs.Common.{ap, ◌∙◌}
use Rattle.kp_base.specs.declared.ground.Ground.{Ground}
use Rattle.kp_names.specs.View.{lifted_view}
use Rattle.kp_init.specs.Initial.{initial_over}
use Rattle.kp_init.proofs.formula.initial.Goals as goal

-- the table of the ground problem has the ground atoms
pub returns : goal.returns
returns c = c.in_ok-formula.ensures ∙ ap (λ (g : Ground). initial_over (lifted_view c.args.lifted.now) g.table) c.requires
