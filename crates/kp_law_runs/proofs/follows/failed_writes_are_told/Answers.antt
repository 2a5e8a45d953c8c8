use Rattle.kp_law_runs.proofs.Following as following
use Rattle.kp_law_runs.proofs.follows.failed_writes_are_told.Goals as goal

pub returns : goal.returns
returns c = following.failed_writes_are_told
