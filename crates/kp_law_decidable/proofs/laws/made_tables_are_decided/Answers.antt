use Rattle.kp_law_decidable.proofs.Made.{made_decided}
use Rattle.kp_law_decidable.proofs.laws.made_tables_are_decided.Goals as goal

pub returns : goal.returns
returns c = made_decided
