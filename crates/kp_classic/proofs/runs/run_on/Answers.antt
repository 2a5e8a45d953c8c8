use Rattle.std.proofs.Common.{◌≡◌, ◌∙◌, ◌∷◌, ◌+◌, length, ap, sym, arith, drop, get_or, nat_lt, add-one, drop-cons}
use Rattle.std.proofs.lemmas.Bool.{and_parts}
use Rattle.std.proofs.lemmas.List.{drop_all}
use Rattle.kp_classic.specs.Fits.{are_below}
use Rattle.kp_classic.specs.States.{FactSet, has}
use Rattle.kp_classic.proofs.States.{is_state}
use Rattle.kp_classic.proofs.Stepping.{rests_more}
use Rattle.kp_classic.proofs.runs.run_on.Goals as goal

-- the operator was applicable, and its step is done
pub loop-op-preserved : goal.loop-op-preserved
loop-op-preserved c =
    let t = c.args.task.now in
    let ops = c.args.ops.now in
    let k = get_or ops c.loop-op.op-index 0 in
    let left : drop c.loop-op.op-index ops ≡ k ∷ drop (c.loop-op.op-index + 1) ops = rw add-one (drop-cons ops c.loop-op.op-index 0 (omega arith)) in
    let new = c.swap.ensures.x_after ∙ c.step_into.ensures in
    let more = rests_more t c.requires.fit k (drop (c.loop-op.op-index + 1) ops) ops (has c.loop-op.state.hold) (has c.args.state.now.hold) c.swap.new.x new (sym c.if-not-applicable.ensures) (rw left at c.loop-op.invariant.0) in
    let below = and_parts (nat_lt k (length t.ops)) (are_below (length t.ops) (drop (c.loop-op.op-index + 1) ops)) (rw left at c.loop-op.invariant.3) in
    (more, ap (λ (x : FactSet). x.facts) new, ap (λ (x : FactSet). x.facts) c.swap.ensures.y_after ∙ c.loop-op.invariant.1, below.1)

-- nothing is left
pub returns-clause-end : goal.returns-clause-end
returns-clause-end c = λ _.
    let none = drop_all c.loop-op.op-index c.args.ops.now (omega arith) in
    let r = rw none at c.loop-op.invariant.0 in
    is_state c.loop-op.state (length c.args.task.now.facts) _ c.ascends.ensures c.loop-op.invariant.1 (λ f lt. r.ends.each f lt)
