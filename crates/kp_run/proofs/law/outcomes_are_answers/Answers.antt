use Rattle.kp_run.proofs.Answered.{outcomes_are_answers}
use Rattle.kp_run.proofs.law.outcomes_are_answers.Goals as goal

pub returns : goal.returns
returns c = outcomes_are_answers
