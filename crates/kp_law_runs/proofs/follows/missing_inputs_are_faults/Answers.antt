use Rattle.kp_law_runs.proofs.Following as following
use Rattle.kp_law_runs.proofs.follows.missing_inputs_are_faults.Goals as goal

pub returns : goal.returns
returns c = following.missing_inputs_are_faults
