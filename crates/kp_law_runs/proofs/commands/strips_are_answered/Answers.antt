use Rattle.kp_law_runs.proofs.OfCommands as following
use Rattle.kp_law_runs.proofs.commands.strips_are_answered.Goals as goal

pub returns : goal.returns
returns c = following.strips_are_answered
