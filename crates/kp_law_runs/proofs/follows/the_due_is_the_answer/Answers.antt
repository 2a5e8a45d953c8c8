use Rattle.kp_law_runs.proofs.Following as following
use Rattle.kp_law_runs.proofs.follows.the_due_is_the_answer.Goals as goal

pub returns : goal.returns
returns c = following.the_due_is_the_answer
