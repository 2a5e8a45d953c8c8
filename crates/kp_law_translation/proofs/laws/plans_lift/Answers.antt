use Rattle.kp_law_translation.proofs.Lifting.{plans_lift}
use Rattle.kp_law_translation.proofs.laws.plans_lift.Goals as goal

pub returns : goal.returns
returns c = plans_lift
