use Rattle.kp_law_runs.proofs.Posed as following
use Rattle.kp_law_runs.proofs.solve.posed_once.Goals as goal

pub returns : goal.returns
returns c = following.posed_once
