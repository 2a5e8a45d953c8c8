use Rattle.kp_law_runs.proofs.Following as following
use Rattle.kp_law_runs.proofs.follows.inputs_are_read_in_order.Goals as goal

pub returns : goal.returns
returns c = following.inputs_are_read_in_order
