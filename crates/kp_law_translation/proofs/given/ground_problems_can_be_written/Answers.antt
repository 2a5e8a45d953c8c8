use Rattle.kp_law_translation.proofs.Written.{grounds_written}
use Rattle.kp_law_translation.proofs.given.ground_problems_can_be_written.Goals as goal

pub returns : goal.returns
returns c = grounds_written
