use Rattle.kp_law_decidable.proofs.Widths.{widths_decided}
use Rattle.kp_law_decidable.proofs.laws.widths_are_decided.Goals as goal

pub returns : goal.returns
returns c = widths_decided
