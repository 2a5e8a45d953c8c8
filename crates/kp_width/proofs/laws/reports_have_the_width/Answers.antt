use Rattle.kp_width.proofs.Widest.{reports_right}
use Rattle.kp_width.proofs.laws.reports_have_the_width.Goals as goal

pub returns : goal.returns
returns c = reports_right
