use Rattle.kp_write.proofs.Pieces.{fact_puts}
use Rattle.kp_write.proofs.putting.put_fact.Goals as goal

pub returns : goal.returns
returns c = fact_puts _ _ _ _ _ c.in_ok-put_byte.ensures c.in_ok-put_name.ensures c.in_ok-put_byte-2.ensures
