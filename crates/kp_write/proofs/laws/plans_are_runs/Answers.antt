use Rattle.kp_write.proofs.Runs.{plans_are_runs}
use Rattle.kp_write.proofs.laws.plans_are_runs.Goals as goal

pub returns : goal.returns
returns c = plans_are_runs
