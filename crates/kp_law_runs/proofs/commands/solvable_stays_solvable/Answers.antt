use Rattle.kp_run.proofs.Public.{translations_stay_solvable}
use Rattle.kp_law_runs.proofs.commands.solvable_stays_solvable.Goals as goal

pub returns : goal.returns
returns c = translations_stay_solvable
