use Rattle.kp_run_solve.proofs.OneSolving.{classical_once}
use Rattle.kp_run_solve.proofs.laws.classical_solvings_have_one_outcome.Goals as goal

pub returns : goal.returns
returns c = classical_once
