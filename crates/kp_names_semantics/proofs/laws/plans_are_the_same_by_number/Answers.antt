use Rattle.kp_names_semantics.proofs.NumberedPlans.{plan_numbered}
use Rattle.kp_names_semantics.proofs.laws.plans_are_the_same_by_number.Goals as goal

pub returns : goal.returns
returns c = plan_numbered
