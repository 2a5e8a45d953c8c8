use Rattle.kp_write.proofs.Pieces.{domain_end_puts}
use Rattle.kp_write.proofs.writing.put_domain_end.Goals as goal

pub returns : goal.returns
returns c = domain_end_puts _ _ c.in_ok-put.ensures
