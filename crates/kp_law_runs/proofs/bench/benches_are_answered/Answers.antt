use Rattle.kp_law_runs.proofs.Benches as following
use Rattle.kp_law_runs.proofs.bench.benches_are_answered.Goals as goal

pub returns : goal.returns
returns c = following.benches_are_answered
