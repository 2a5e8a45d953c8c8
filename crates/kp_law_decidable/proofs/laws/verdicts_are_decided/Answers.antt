use Rattle.kp_law_decidable.proofs.Judging.{verdicts_decided}
use Rattle.kp_law_decidable.proofs.laws.verdicts_are_decided.Goals as goal

pub returns : goal.returns
returns c = verdicts_decided
