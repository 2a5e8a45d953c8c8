use Rattle.std.proofs.Common.{◌≡◌, ◌∷◌, ◌+◌, drop, get_or, add-one, drop-cons, arith}
use Rattle.kp_run_solve.proofs.Operators.{names_more}
use Rattle.kp_run_solve.proofs.names.actions_among.Goals as goal

-- one more operator is an action, or not
pub loop-operator-preserved : goal.loop-operator-preserved
loop-operator-preserved c =
    let ops = c.args.operators.now in
    let i = c.loop-operator.operator-index in
    let left : drop i ops ≡ get_or ops i 0 ∷ drop (i + 1) ops = rw add-one (drop-cons ops i 0 (omega arith)) in
    names_more c.args.ground.now c.loop-operator.names c.put_if_action.new.names ops (drop (i + 1) ops) i (get_or ops i 0) left c.in_ok-put_if_action.ensures c.loop-operator.invariant
