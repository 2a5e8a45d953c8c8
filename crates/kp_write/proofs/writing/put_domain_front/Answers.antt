use Rattle.kp_write.proofs.Pieces.{domain_front_puts}
use Rattle.kp_write.proofs.writing.put_domain_front.Goals as goal

pub returns : goal.returns
returns c = domain_front_puts _ _ _ _ _ c.in_ok-put.ensures c.in_ok-put_names.ensures c.in_ok-put-2.ensures
