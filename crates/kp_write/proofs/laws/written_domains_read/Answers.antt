use Rattle.kp_write.proofs.Whole.{written_domains_read}
use Rattle.kp_write.proofs.laws.written_domains_read.Goals as goal

pub returns : goal.returns
returns c = written_domains_read
