use Rattle.kp_cover.proofs.Answered.{none_uncovered}
use Rattle.kp_cover.proofs.laws.none_are_uncovered_if_complete.Goals as goal

pub returns : goal.returns
returns c = none_uncovered
