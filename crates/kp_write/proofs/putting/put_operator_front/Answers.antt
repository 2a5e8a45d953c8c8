use Rattle.std.proofs.Common.{map}
use Rattle.kp_write.specs.Named.{fact_name}
use Rattle.kp_write.proofs.Pieces.{front_puts}
use Rattle.kp_write.proofs.putting.put_operator_front.Goals as goal

pub returns : goal.returns
returns c =
    front_puts _ _ _ _ _ _ _ (map (fact_name c.args.facts.now) c.args.operator.now.pre.yes)
    c.in_ok-put.ensures (rw c.slice.ensures at c.in_ok-put-2.ensures) c.in_ok-put-3.ensures c.in_ok-put_precondition.ensures c.in_ok-put-4.ensures
