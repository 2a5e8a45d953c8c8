use Rattle.kp_law_runs.proofs.Posed as following
use Rattle.kp_law_runs.proofs.bench.bench_posed_once.Goals as goal

pub returns : goal.returns
returns c = following.bench_posed_once
