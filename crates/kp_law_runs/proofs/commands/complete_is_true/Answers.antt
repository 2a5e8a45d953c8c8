use Rattle.kp_law_runs.proofs.OfCommands as following
use Rattle.kp_law_runs.proofs.commands.complete_is_true.Goals as goal

pub returns : goal.returns
returns c = following.complete_is_true
