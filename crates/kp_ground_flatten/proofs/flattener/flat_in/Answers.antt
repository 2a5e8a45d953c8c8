use Rattle.std.proofs.Common.{◌≡◌, Some, subst, ◌∙◌, sym, ap}
use Rattle.kp_ground_flatten.specs.Nodes.{node_view}
use Rattle.kp_names.specs.View.{lifted_view}
use Rattle.kp_ground_flatten.proofs.Meaning.{flat_of_bound}
use Rattle.kp_ground_flatten.specs.Bound.{bound_at}
use Rattle.kp_ground_flatten.proofs.flattener.flat_in.Goals as goal

pub returns : goal.returns
returns c = flat_of_bound (lifted_view c.args.statics.now) c.args.schema c.args.objects.now (node_view c.in_ok-node.node) (subst (λ l. bound_at (lifted_view l) c.args.schema c.args.objects.now ≡ Some (node_view c.in_ok-node.node)) c.lifted.ensures c.in_ok-node.ensures) ∙ ap Some (sym c.in_ok-flat.ensures)
