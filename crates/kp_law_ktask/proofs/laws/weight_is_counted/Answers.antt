use Rattle.kp_law_ktask.proofs.Weights.{weight_counted}
use Rattle.kp_law_ktask.proofs.laws.weight_is_counted.Goals as goal

pub returns : goal.returns
returns c = weight_counted
