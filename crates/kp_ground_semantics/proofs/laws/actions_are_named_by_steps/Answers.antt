use Rattle.kp_ground_semantics.proofs.Names.{named_by_steps}
use Rattle.kp_ground_semantics.proofs.laws.actions_are_named_by_steps.Goals as goal

pub returns : goal.returns
returns c = named_by_steps
