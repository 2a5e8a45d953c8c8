use Rattle.kp_law_runs.proofs.SomeModes.{some_modes_tell_complete}
use Rattle.kp_law_runs.proofs.commands.some_modes_tell_complete.Goals as goal

pub returns : goal.returns
returns c = some_modes_tell_complete
