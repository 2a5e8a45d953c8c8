use Rattle.kp_law_ktask.proofs.Weights.{both_alike}
use Rattle.kp_law_ktask.proofs.laws.both_weigh_alike.Goals as goal

pub returns : goal.returns
returns c = both_alike
