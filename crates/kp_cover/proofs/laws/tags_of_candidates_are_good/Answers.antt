use Rattle.kp_cover.proofs.Taking.{good}
use Rattle.kp_cover.proofs.laws.tags_of_candidates_are_good.Goals as goal

pub returns : goal.returns
returns c = good
