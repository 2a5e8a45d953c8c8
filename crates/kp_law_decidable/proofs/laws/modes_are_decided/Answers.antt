use Rattle.kp_law_decidable.proofs.Moded.{modes_decided}
use Rattle.kp_law_decidable.proofs.laws.modes_are_decided.Goals as goal

pub returns : goal.returns
returns c = modes_decided
