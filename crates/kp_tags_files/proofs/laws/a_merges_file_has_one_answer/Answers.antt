use Rattle.kp_tags_files.proofs.OneAnswer.{read_once, refused_once, never_two, always_some}
use Rattle.kp_tags_files.proofs.laws.a_merges_file_has_one_answer.Goals as goal

pub returns-clause-one_list : goal.returns-clause-one_list
returns-clause-one_list c = read_once

pub returns-clause-one_refusal : goal.returns-clause-one_refusal
returns-clause-one_refusal c = refused_once

pub returns-clause-never_both : goal.returns-clause-never_both
returns-clause-never_both c = never_two

pub returns-clause-always_one : goal.returns-clause-always_one
returns-clause-always_one c = always_some
