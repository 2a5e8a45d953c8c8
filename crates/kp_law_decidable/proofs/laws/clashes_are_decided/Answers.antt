use Rattle.kp_law_decidable.proofs.Clashing.{clash_or_none}
use Rattle.kp_law_decidable.proofs.laws.clashes_are_decided.Goals as goal

pub returns : goal.returns
returns c = clash_or_none
