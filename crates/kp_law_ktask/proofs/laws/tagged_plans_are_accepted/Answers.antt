use Rattle.kp_law_ktask.proofs.Runs.{runs_are_accepted}
use Rattle.kp_law_ktask.proofs.Plans.{plans_are_accepted}
use Rattle.kp_law_ktask.proofs.laws.tagged_plans_are_accepted.Goals as goal

pub returns : goal.returns
returns c = record { runs = runs_are_accepted; plans = plans_are_accepted }
