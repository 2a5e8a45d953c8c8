use Rattle.kp_law_runs.proofs.Classicals as following
use Rattle.kp_law_runs.proofs.solve.classical_spent_is_true.Goals as goal

pub returns : goal.returns
returns c = following.classical_spent_is_true
