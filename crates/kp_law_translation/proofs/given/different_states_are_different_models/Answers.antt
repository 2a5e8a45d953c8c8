use Rattle.kp_law_translation.proofs.Different.{states_differ}
use Rattle.kp_law_translation.proofs.given.different_states_are_different_models.Goals as goal

pub returns : goal.returns
returns c = states_differ
