use Rattle.kp_law_decidable.proofs.Counting.{counted}
use Rattle.kp_law_decidable.proofs.laws.implicates_are_counted.Goals as goal

pub returns : goal.returns
returns c = counted
