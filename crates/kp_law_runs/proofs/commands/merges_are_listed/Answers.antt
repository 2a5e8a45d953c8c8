use Rattle.kp_law_runs.proofs.OfCommands as following
use Rattle.kp_law_runs.proofs.commands.merges_are_listed.Goals as goal

pub returns : goal.returns
returns c = following.merges_are_listed
