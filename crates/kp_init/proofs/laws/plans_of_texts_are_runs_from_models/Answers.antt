use Rattle.kp_init.proofs.Runs.{plan_of_texts}
use Rattle.kp_init.proofs.laws.plans_of_texts_are_runs_from_models.Goals as goal

pub returns : goal.returns
returns c = plan_of_texts
