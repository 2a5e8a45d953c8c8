use Rattle.kp_width.proofs.Least.{over_wider}
use Rattle.kp_width.proofs.laws.targets_over_are_wider.Goals as goal

pub returns : goal.returns
returns c = over_wider
