use Rattle.kp_law_runs.proofs.Following as following
use Rattle.kp_law_runs.proofs.follows.only_done_puts.Goals as goal

pub returns : goal.returns
returns c = following.only_done_puts
