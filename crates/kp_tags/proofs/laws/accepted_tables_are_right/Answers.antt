use Rattle.kp_tags.proofs.Right.{right}
use Rattle.kp_tags.proofs.laws.accepted_tables_are_right.Goals as goal

pub returns : goal.returns
returns c = right
