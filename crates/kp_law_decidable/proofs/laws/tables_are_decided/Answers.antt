use Rattle.kp_law_decidable.proofs.Tabling.{tables_decided}
use Rattle.kp_law_decidable.proofs.laws.tables_are_decided.Goals as goal

pub returns : goal.returns
returns c = tables_decided
