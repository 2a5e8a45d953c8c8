use Rattle.kp_tags.proofs.Made.{made_once}
use Rattle.kp_tags.proofs.laws.there_is_one_made_table.Goals as goal

pub returns : goal.returns
returns c = made_once
