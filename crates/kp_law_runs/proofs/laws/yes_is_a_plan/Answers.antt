use Rattle.kp_law_runs.proofs.YesPlans as plans
use Rattle.kp_law_runs.proofs.laws.yes_is_a_plan.Goals as goal

pub returns : goal.returns
returns c = plans.yes_is_a_plan
