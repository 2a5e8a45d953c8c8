use Rattle.kp_names_semantics.proofs.Texts.{one_problem}
use Rattle.kp_names_semantics.proofs.laws.texts_have_one_problem.Goals as goal

pub returns : goal.returns
returns c = one_problem
