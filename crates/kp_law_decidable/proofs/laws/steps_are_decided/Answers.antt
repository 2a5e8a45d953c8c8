use Rattle.kp_law_decidable.proofs.Finding.{steps_decided}
use Rattle.kp_law_decidable.proofs.laws.steps_are_decided.Goals as goal

pub returns : goal.returns
returns c = steps_decided
