use Rattle.kp_width.proofs.Least.{every_target}
use Rattle.kp_width.proofs.laws.every_target_has_a_width.Goals as goal

pub returns : goal.returns
returns c = every_target
