use Rattle.kp_law_runs.proofs.OneOutcome.{one_outcome}
use Rattle.kp_law_runs.proofs.laws.words_have_one_outcome.Goals as goal

pub returns : goal.returns
returns c = one_outcome
