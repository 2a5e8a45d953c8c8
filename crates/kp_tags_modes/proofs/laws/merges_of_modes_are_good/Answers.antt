use Rattle.kp_tags_modes.proofs.Good.{merges_good}
use Rattle.kp_tags_modes.proofs.laws.merges_of_modes_are_good.Goals as goal

pub returns : goal.returns
returns c = merges_good
