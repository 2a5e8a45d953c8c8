use Rattle.kp_tags.proofs.Unique.{one_table}
use Rattle.kp_tags.proofs.laws.there_is_one_table.Goals as goal

pub returns : goal.returns
returns c = one_table
