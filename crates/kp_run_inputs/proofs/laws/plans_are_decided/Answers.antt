use Rattle.kp_run_inputs.proofs.OnePlan.{some_plan}
use Rattle.kp_run_inputs.proofs.laws.plans_are_decided.Goals as goal

pub returns : goal.returns
returns c = some_plan
