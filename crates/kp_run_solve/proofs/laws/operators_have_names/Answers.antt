use Rattle.kp_run_solve.proofs.Operators.{have_names}
use Rattle.kp_run_solve.proofs.laws.operators_have_names.Goals as goal

pub returns : goal.returns
returns c = have_names
