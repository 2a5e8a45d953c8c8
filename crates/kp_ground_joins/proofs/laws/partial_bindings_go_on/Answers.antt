use Rattle.kp_ground_joins.proofs.Joined.{partial_go_on}
use Rattle.kp_ground_joins.proofs.laws.partial_bindings_go_on.Goals as goal

pub returns : goal.returns
returns c = partial_go_on
