use Rattle.kp_cover_subsets.proofs.InOrder.{sets_are_in_order}
use Rattle.kp_cover_subsets.proofs.laws.sets_are_in_order.Goals as goal

pub returns : goal.returns
returns c = sets_are_in_order
