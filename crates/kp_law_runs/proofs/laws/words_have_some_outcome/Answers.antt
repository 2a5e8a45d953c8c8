use Rattle.kp_law_runs.proofs.SomeOutcome.{some_due}
use Rattle.kp_law_runs.proofs.laws.words_have_some_outcome.Goals as goal

pub returns : goal.returns
returns c = some_due
