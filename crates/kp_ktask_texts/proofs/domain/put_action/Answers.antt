use Rattle.kp_write.specs.Named.{named_op}
use Rattle.kp_write.proofs.Public.{operator_puts}
use Rattle.kp_law_ktask.specs.Task.{op_of}
use Rattle.kp_ktask_texts.proofs.domain.put_action.Goals as goal

pub returns : goal.returns
returns c =
    operator_puts _ _ _ _ (named_op c.args.facts.now (op_of c.args.atoms c.args.tags c.args.action.now))
    c.in_ok-put_front.ensures (rw c.slice.ensures at c.in_ok-put_effects.ensures) c.in_ok-put_operator_end.ensures
