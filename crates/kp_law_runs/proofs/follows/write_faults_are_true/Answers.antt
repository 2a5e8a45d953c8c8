use Rattle.kp_law_runs.proofs.Following as following
use Rattle.kp_law_runs.proofs.follows.write_faults_are_true.Goals as goal

pub returns : goal.returns
returns c = following.write_faults_are_true
