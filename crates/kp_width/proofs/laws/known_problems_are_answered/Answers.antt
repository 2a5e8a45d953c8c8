use Rattle.kp_width.proofs.Answered.{answered}
use Rattle.kp_width.proofs.laws.known_problems_are_answered.Goals as goal

pub returns : goal.returns
returns c = answered
