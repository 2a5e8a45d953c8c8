use Rattle.kp_write.proofs.Numbered.{task_plans_are_runs}
use Rattle.kp_write.proofs.laws.task_plans_are_runs.Goals as goal

pub returns : goal.returns
returns c = task_plans_are_runs
