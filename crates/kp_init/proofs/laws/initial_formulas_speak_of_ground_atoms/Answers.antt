use Rattle.kp_init.proofs.Runs.{initial_is_over}
use Rattle.kp_init.proofs.laws.initial_formulas_speak_of_ground_atoms.Goals as goal

pub returns : goal.returns
returns c = initial_is_over
