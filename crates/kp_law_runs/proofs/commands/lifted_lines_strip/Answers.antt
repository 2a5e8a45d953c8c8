use Rattle.kp_law_runs.proofs.OfCommands as following
use Rattle.kp_law_runs.proofs.commands.lifted_lines_strip.Goals as goal

pub returns : goal.returns
returns c = following.lifted_lines_strip
