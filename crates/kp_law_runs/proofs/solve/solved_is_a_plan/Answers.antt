use Rattle.kp_law_runs.proofs.Solvings as following
use Rattle.kp_law_runs.proofs.solve.solved_is_a_plan.Goals as goal

pub returns : goal.returns
returns c = following.solved_is_a_plan
