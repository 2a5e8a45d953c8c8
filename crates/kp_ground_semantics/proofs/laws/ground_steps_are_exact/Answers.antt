use Rattle.kp_ground_semantics.proofs.Step.{step_exact}
use Rattle.kp_ground_semantics.proofs.laws.ground_steps_are_exact.Goals as goal

pub returns : goal.returns
returns c = step_exact
