use Rattle.kp_init.proofs.Models.{initial_exact}
use Rattle.kp_init.proofs.laws.models_are_initial_states.Goals as goal

pub returns : goal.returns
returns c = initial_exact
