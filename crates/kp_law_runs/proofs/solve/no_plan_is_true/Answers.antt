use Rattle.kp_law_runs.proofs.Solvings as following
use Rattle.kp_law_runs.proofs.solve.no_plan_is_true.Goals as goal

pub returns : goal.returns
returns c = following.no_plan_is_true
