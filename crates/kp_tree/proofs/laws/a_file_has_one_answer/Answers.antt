use Rattle.kp_tree.proofs.OneAnswer.{read_once, refused_one, never_two, always_some}
use Rattle.kp_tree.proofs.laws.a_file_has_one_answer.Goals as goal

pub returns : goal.returns
returns c = record { one_tree = read_once; one_refusal = refused_one; never_both = never_two; always_one = always_some }
