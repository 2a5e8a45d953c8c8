use Rattle.kp_law_runs.proofs.Following as following
use Rattle.kp_law_runs.proofs.follows.done_puts_the_outputs.Goals as goal

pub returns : goal.returns
returns c = following.done_puts_the_outputs
