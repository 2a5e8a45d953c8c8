use Rattle.kp_ground_semantics.proofs.Static.{static_at_first}
use Rattle.kp_ground_semantics.proofs.laws.static_truth_at_first.Goals as goal

pub returns : goal.returns
returns c = static_at_first
