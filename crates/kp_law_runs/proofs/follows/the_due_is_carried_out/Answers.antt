use Rattle.kp_law_runs.proofs.Following as following
use Rattle.kp_law_runs.proofs.follows.the_due_is_carried_out.Goals as goal

pub returns : goal.returns
returns c = following.the_due_is_carried_out
