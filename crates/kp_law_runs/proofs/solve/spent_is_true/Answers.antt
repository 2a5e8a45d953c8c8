use Rattle.kp_law_runs.proofs.Solvings as following
use Rattle.kp_law_runs.proofs.solve.spent_is_true.Goals as goal

pub returns : goal.returns
returns c = following.spent_is_true
