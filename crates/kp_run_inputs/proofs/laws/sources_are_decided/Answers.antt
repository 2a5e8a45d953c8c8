use Rattle.kp_run_inputs.proofs.SomeTable.{some_table}
use Rattle.kp_run_inputs.proofs.laws.sources_are_decided.Goals as goal

pub returns : goal.returns
returns c = some_table
