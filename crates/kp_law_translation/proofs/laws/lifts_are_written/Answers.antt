use Rattle.kp_law_translation.proofs.Lifting.{lifts_written}
use Rattle.kp_law_translation.proofs.laws.lifts_are_written.Goals as goal

pub returns : goal.returns
returns c = lifts_written
