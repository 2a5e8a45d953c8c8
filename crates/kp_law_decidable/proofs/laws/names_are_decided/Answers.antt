use Rattle.kp_law_decidable.proofs.Sizes.{names_decided}
use Rattle.kp_law_decidable.proofs.laws.names_are_decided.Goals as goal

pub returns : goal.returns
returns c = names_decided
