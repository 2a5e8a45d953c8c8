use Rattle.kp_run_solve.proofs.Plans.{named_accepted}
use Rattle.kp_run_solve.proofs.laws.named_plans_are_accepted.Goals as goal

pub returns : goal.returns
returns c = named_accepted
