use Rattle.kp_law_runs.proofs.Following as following
use Rattle.kp_law_runs.proofs.follows.answers_are_whole.Goals as goal

pub returns : goal.returns
returns c = following.answers_are_whole
