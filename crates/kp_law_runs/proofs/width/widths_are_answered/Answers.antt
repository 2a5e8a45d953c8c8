use Rattle.kp_law_runs.proofs.Widths as following
use Rattle.kp_law_runs.proofs.width.widths_are_answered.Goals as goal

pub returns : goal.returns
returns c = following.widths_are_answered
