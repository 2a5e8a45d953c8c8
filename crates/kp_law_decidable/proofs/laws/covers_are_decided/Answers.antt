use Rattle.kp_law_decidable.proofs.Covered.{covers_decided}
use Rattle.kp_law_decidable.proofs.laws.covers_are_decided.Goals as goal

pub returns : goal.returns
returns c = covers_decided
