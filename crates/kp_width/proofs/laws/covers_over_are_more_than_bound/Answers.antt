use Rattle.kp_width.proofs.Right.{more_than}
use Rattle.kp_width.proofs.laws.covers_over_are_more_than_bound.Goals as goal

pub returns : goal.returns
returns c = more_than
