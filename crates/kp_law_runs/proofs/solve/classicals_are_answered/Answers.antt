use Rattle.kp_law_runs.proofs.Classicals as following
use Rattle.kp_law_runs.proofs.solve.classicals_are_answered.Goals as goal

pub returns : goal.returns
returns c = following.classicals_are_answered
