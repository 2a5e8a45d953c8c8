use Rattle.kp_width.proofs.OneAnswer.{one_width}
use Rattle.kp_width.proofs.laws.problems_have_one_width.Goals as goal

pub returns : goal.returns
returns c = one_width
