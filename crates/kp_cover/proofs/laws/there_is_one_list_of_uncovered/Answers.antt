use Rattle.kp_cover.proofs.Answered.{one_uncovered}
use Rattle.kp_cover.proofs.laws.there_is_one_list_of_uncovered.Goals as goal

pub returns : goal.returns
returns c = one_uncovered
