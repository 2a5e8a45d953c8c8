use Rattle.kp_run_inputs.proofs.Right.{tables_complete}
use Rattle.kp_run_inputs.proofs.laws.some_tables_are_complete.Goals as goal

pub returns : goal.returns
returns c = tables_complete
