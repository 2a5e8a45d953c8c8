use Rattle.kp_width.proofs.Right.{rows_right}
use Rattle.kp_width.proofs.laws.rows_have_the_width.Goals as goal

pub returns : goal.returns
returns c = rows_right
