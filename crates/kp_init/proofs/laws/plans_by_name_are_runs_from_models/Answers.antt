use Rattle.kp_init.proofs.Runs.{plan_by_name}
use Rattle.kp_init.proofs.laws.plans_by_name_are_runs_from_models.Goals as goal

pub returns : goal.returns
returns c = plan_by_name
