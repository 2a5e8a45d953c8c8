use Rattle.kp_law_runs.proofs.Classicals as following
use Rattle.kp_law_runs.proofs.solve.classical_is_a_plan.Goals as goal

pub returns : goal.returns
returns c = following.classical_is_a_plan
