use Rattle.kp_law_runs.proofs.Posed as following
use Rattle.kp_law_runs.proofs.solve.classical_posed_once.Goals as goal

pub returns : goal.returns
returns c = following.classical_posed_once
