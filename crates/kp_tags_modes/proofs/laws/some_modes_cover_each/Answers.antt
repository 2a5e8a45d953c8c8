use Rattle.kp_tags_modes.proofs.Covering.{each_covered}
use Rattle.kp_tags_modes.proofs.laws.some_modes_cover_each.Goals as goal

pub returns : goal.returns
returns c = each_covered
