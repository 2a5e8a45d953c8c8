use Rattle.kp_law_translation.proofs.Apart.{names_tell}
use Rattle.kp_law_translation.proofs.given.names_tell_ground_atoms.Goals as goal

pub returns : goal.returns
returns c = names_tell
