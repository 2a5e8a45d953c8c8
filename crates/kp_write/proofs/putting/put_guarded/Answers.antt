use Rattle.kp_write.proofs.Pieces.{under_when}
use Rattle.kp_write.proofs.putting.put_guarded.Goals as goal

pub returns-in_ok-put_when : goal.returns-in_ok-put_when
returns-in_ok-put_when c = under_when _ _ c.args.facts.now c.args.effect.now.cond.yes c.args.effect.now.cond.no _ c.if-is_unconditional.ensures c.in_ok-put_when.ensures
