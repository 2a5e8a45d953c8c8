use Rattle.kp_cover_subsets.proofs.Sublists.{subsets_are}
use Rattle.kp_cover_subsets.proofs.laws.subsets_are_sublists.Goals as goal

pub returns : goal.returns
returns c = subsets_are
