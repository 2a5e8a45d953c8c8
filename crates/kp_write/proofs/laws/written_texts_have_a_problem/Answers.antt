use Rattle.kp_write.proofs.Faultless.{written_texts_have_problem}
use Rattle.kp_write.proofs.laws.written_texts_have_a_problem.Goals as goal

pub returns : goal.returns
returns c = written_texts_have_problem
