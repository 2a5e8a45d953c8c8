use Rattle.kp_ground_semantics.proofs.Names.{actions_named_once}
use Rattle.kp_ground_semantics.proofs.laws.actions_are_named_once.Goals as goal

pub returns : goal.returns
returns c = actions_named_once
