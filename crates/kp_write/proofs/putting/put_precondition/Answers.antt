use Rattle.kp_write.proofs.Pieces.{precondition_puts}
use Rattle.kp_write.proofs.putting.put_precondition.Goals as goal

pub returns-in_ok-put-2 : goal.returns-in_ok-put-2
returns-in_ok-put-2 c = precondition_puts _ _ _ _ c.args.facts.now c.args.pre.now.yes (rw c.len.ensures at c.if-len-gt0.true) c.in_ok-put.ensures (rw c.slice.ensures at c.in_ok-put_spaced.ensures) c.in_ok-put-2.ensures
