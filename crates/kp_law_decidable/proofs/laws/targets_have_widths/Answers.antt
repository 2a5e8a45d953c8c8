use Rattle.kp_law_decidable.proofs.Widths.{targets_have_widths}
use Rattle.kp_law_decidable.proofs.laws.targets_have_widths.Goals as goal

pub returns : goal.returns
returns c = targets_have_widths
