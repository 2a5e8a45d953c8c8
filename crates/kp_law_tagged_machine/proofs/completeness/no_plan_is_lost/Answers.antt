use Rattle.kp_law_tagged_machine.proofs.Complete.{none_lost}
use Rattle.kp_law_tagged_machine.proofs.completeness.no_plan_is_lost.Goals as goal

pub returns : goal.returns
returns c = none_lost
