use Rattle.kp_run_classical.proofs.Plans.{have_names, are_plans, are_successes}
use Rattle.kp_run_classical.proofs.laws.classical_plans_are_plans.Goals as goal

pub returns : goal.returns
returns c = record { successes = are_plans; names = have_names; plans = are_successes }
