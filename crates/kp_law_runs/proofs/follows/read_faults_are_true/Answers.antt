use Rattle.kp_law_runs.proofs.Following as following
use Rattle.kp_law_runs.proofs.follows.read_faults_are_true.Goals as goal

pub returns : goal.returns
returns c = following.read_faults_are_true
