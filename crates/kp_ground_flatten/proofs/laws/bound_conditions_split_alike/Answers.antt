use Rattle.kp_ground_flatten.proofs.Meaning.{split_bound}
use Rattle.kp_ground_flatten.proofs.laws.bound_conditions_split_alike.Goals as goal

pub returns : goal.returns
returns c = split_bound
