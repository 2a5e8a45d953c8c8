use Rattle.kp_clash_exclusive.proofs.Small.{any_noted}
use Rattle.kp_clash_exclusive.proofs.tables.Tables.any.Goals as goal

pub returns : goal.returns
returns c = any_noted
