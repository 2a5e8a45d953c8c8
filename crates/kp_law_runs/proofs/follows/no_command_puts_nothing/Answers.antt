use Rattle.kp_law_runs.proofs.Following as following
use Rattle.kp_law_runs.proofs.follows.no_command_puts_nothing.Goals as goal

pub returns : goal.returns
returns c = following.no_command_puts_nothing
