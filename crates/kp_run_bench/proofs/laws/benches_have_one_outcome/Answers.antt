use Rattle.kp_run_bench.proofs.OneBench.{benches_once}
use Rattle.kp_run_bench.proofs.laws.benches_have_one_outcome.Goals as goal

pub returns : goal.returns
returns c = benches_once
