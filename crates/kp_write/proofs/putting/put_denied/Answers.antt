use Rattle.kp_write.proofs.Pieces.{denied_puts}
use Rattle.kp_write.proofs.putting.put_denied.Goals as goal

pub returns : goal.returns
returns c = denied_puts _ _ _ _ _ c.in_ok-put.ensures c.in_ok-put_fact.ensures c.in_ok-put_byte.ensures
