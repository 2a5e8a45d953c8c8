use Rattle.kp_law_decidable.proofs.Needed.{targets_decided}
use Rattle.kp_law_decidable.proofs.laws.targets_are_decided.Goals as goal

pub returns : goal.returns
returns c = targets_decided
