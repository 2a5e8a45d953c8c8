use Rattle.kp_cover_subsets.proofs.Sublists.{no_smaller}
use Rattle.kp_cover_subsets.proofs.laws.no_smaller_set_passes.Goals as goal

pub returns : goal.returns
returns c = no_smaller
