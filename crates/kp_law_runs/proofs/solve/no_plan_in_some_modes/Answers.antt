use Rattle.kp_law_runs.proofs.SomeModes.{no_plan_in_some_modes}
use Rattle.kp_law_runs.proofs.solve.no_plan_in_some_modes.Goals as goal

pub returns : goal.returns
returns c = no_plan_in_some_modes
