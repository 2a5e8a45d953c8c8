use Rattle.kp_cover.proofs.Answered.{one_coverage}
use Rattle.kp_cover.proofs.laws.there_is_one_coverage.Goals as goal

pub returns : goal.returns
returns c = one_coverage
