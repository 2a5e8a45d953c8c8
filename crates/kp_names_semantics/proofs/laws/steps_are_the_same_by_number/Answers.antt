use Rattle.kp_names_semantics.proofs.NumberedPlans.{step_numbered}
use Rattle.kp_names_semantics.proofs.laws.steps_are_the_same_by_number.Goals as goal

pub returns : goal.returns
returns c = step_numbered
