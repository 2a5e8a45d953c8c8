use Rattle.kp_lex.proofs.Begun.{within_right}
use Rattle.kp_lex.proofs.cutting.tokens_within.Goals as goal

pub returns : goal.returns
returns c = within_right _ _ _ _ c.cut_up_to.ensures
