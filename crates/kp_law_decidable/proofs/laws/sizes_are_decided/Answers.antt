use Rattle.kp_law_decidable.proofs.Sizes.{sizes_decided}
use Rattle.kp_law_decidable.proofs.laws.sizes_are_decided.Goals as goal

pub returns : goal.returns
returns c = sizes_decided
