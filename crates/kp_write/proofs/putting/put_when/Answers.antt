use Rattle.kp_write.proofs.Pieces.{when_puts}
use Rattle.kp_write.proofs.putting.put_when.Goals as goal

pub returns : goal.returns
returns c = when_puts _ _ _ _ _ _ _ _ _ _ c.in_ok-put.ensures (rw c.slice.ensures at c.in_ok-put_spaced.ensures) (rw c.slice-2.ensures at c.in_ok-put_spaced-2.ensures) c.in_ok-put-2.ensures c.in_ok-put_signed.ensures c.in_ok-put_byte.ensures
