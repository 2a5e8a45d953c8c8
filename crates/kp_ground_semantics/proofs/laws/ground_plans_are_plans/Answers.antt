use Rattle.kp_ground_semantics.proofs.Plans.{plan_exact}
use Rattle.kp_ground_semantics.proofs.laws.ground_plans_are_plans.Goals as goal

pub returns : goal.returns
returns c = plan_exact
