use Rattle.kp_law_runs.proofs.YesPlans as plans
use Rattle.kp_law_runs.proofs.laws.unknown_steps_are_no_plan.Goals as goal

pub returns : goal.returns
returns c = plans.unknown_steps_are_no_plan
