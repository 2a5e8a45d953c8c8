use Rattle.kp_tags_modes.proofs.OneAnswer.{one_answer}
use Rattle.kp_tags_modes.proofs.laws.modes_have_one_answer.Goals as goal

pub returns : goal.returns
returns c = one_answer
