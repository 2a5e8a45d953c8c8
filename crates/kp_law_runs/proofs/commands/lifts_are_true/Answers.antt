use Rattle.kp_law_runs.proofs.OfCommands as following
use Rattle.kp_law_runs.proofs.commands.lifts_are_true.Goals as goal

pub returns : goal.returns
returns c = following.lifts_are_true
