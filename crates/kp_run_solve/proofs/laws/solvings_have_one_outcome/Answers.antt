use Rattle.kp_run_solve.proofs.OneSolving.{ground_once}
use Rattle.kp_run_solve.proofs.laws.solvings_have_one_outcome.Goals as goal

pub returns : goal.returns
returns c = ground_once
