use Rattle.kp_write.proofs.Pieces.{end_puts}
use Rattle.kp_write.proofs.putting.put_operator_end.Goals as goal

pub returns : goal.returns
returns c = end_puts _ _ c.in_ok-put.ensures
