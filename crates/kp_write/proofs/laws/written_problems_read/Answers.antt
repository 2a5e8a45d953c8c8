use Rattle.kp_write.proofs.Whole.{written_problems_read}
use Rattle.kp_write.proofs.laws.written_problems_read.Goals as goal

pub returns : goal.returns
returns c = written_problems_read
