use Rattle.kp_law_runs.proofs.Following as following
use Rattle.kp_law_runs.proofs.follows.others_put_nothing.Goals as goal

pub returns : goal.returns
returns c = following.others_put_nothing
