use Rattle.kp_lex.proofs.Outcomes.{some, never_both, one_cutting, one_bad_byte}
use Rattle.kp_lex.proofs.laws.one_outcome.Goals as goal

pub returns-clause-some : goal.returns-clause-some
returns-clause-some c = some _

pub returns-clause-never_both : goal.returns-clause-never_both
returns-clause-never_both c = never_both

pub returns-clause-one_cutting : goal.returns-clause-one_cutting
returns-clause-one_cutting c = one_cutting

pub returns-clause-one_bad_byte : goal.returns-clause-one_bad_byte
returns-clause-one_bad_byte c = one_bad_byte
