use Rattle.kp_law_runs.proofs.SomeOutcome.{some_outcome}
use Rattle.kp_law_runs.proofs.laws.commands_have_an_outcome.Goals as goal

pub returns : goal.returns
returns c = some_outcome
