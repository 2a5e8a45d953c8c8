use Rattle.kp_ground_joins.proofs.Joined.{kept_joined}
use Rattle.kp_ground_joins.proofs.laws.kept_bindings_are_joined.Goals as goal

pub returns : goal.returns
returns c = kept_joined
