use Rattle.kp_lex.proofs.Answered.{right, gives, refuses, spans}
use Rattle.kp_lex.proofs.cutting.tokens.Goals as goal

pub returns-clause-right : goal.returns-clause-right
returns-clause-right c = right _ _ _ c.cut_all.ensures

pub returns-clause-cut : goal.returns-clause-cut
returns-clause-cut c = gives _ _ _ c.cut_all.ensures

pub returns-clause-bad : goal.returns-clause-bad
returns-clause-bad c = refuses _ _ _ c.cut_all.ensures

pub returns-clause-spans : goal.returns-clause-spans
returns-clause-spans c = spans _ _ _ c.cut_all.ensures
