use Rattle.kp_law_runs.proofs.Solvings as following
use Rattle.kp_law_runs.proofs.solve.solvings_are_answered.Goals as goal

pub returns : goal.returns
returns c = following.solvings_are_answered
