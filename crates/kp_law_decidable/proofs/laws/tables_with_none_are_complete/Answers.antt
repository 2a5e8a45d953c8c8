use Rattle.kp_law_decidable.proofs.Covered.{complete_with_none}
use Rattle.kp_law_decidable.proofs.laws.tables_with_none_are_complete.Goals as goal

pub returns : goal.returns
returns c = complete_with_none
