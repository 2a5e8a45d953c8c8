use Rattle.std.proofs.Common.{◌≡◌, ◌∷◌, ◌+◌, drop, get_or, add-one, drop-cons, arith, length}
use Rattle.kp_run_bench.proofs.Working.{one_more}
use Rattle.kp_run_bench.proofs.judging.actions_among.Goals as goal

-- one more operator is an action, or not
pub loop-operator-preserved : goal.loop-operator-preserved
loop-operator-preserved c =
    let ops = c.args.operators.now in
    let i = c.loop-operator.operator-index in
    let left : drop i ops ≡ get_or ops i 0 ∷ drop (i + 1) ops = rw add-one (drop-cons ops i 0 (omega arith)) in
    one_more (length c.args.ground.now.actions) c.loop-operator.numbers c.put_if_action.new.numbers ops (drop (i + 1) ops) i (get_or ops i 0) left c.in_ok-put_if_action.ensures c.loop-operator.invariant
