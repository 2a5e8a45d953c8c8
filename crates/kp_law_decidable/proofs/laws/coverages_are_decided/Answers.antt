use Rattle.kp_law_decidable.proofs.Covered.{coverages_decided}
use Rattle.kp_law_decidable.proofs.laws.coverages_are_decided.Goals as goal

pub returns : goal.returns
returns c = coverages_decided
