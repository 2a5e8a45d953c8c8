use Rattle.kp_tags.proofs.Made.{made_right}
use Rattle.kp_tags.proofs.laws.made_tables_are_right.Goals as goal

pub returns : goal.returns
returns c = made_right
