use Rattle.kp_law_runs.proofs.Following as following
use Rattle.kp_law_runs.proofs.follows.puts_are_of_the_due.Goals as goal

pub returns : goal.returns
returns c = following.puts_are_of_the_due
