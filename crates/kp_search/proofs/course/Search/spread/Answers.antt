use Rattle.std.proofs.Common.{◌≡◌, ◌∙◌, ℕ, List, length, refl, ap, subst, arith}
use Rattle.kp_search.specs.StateTables.{StateList}
use Rattle.kp_search.specs.Turns.{Spreads}
use Rattle.kp_search.proofs.Asked.{same_asked}
use Rattle.kp_search.proofs.Spreads.{spreads_none, spreads_more}
use Rattle.kp_search.proofs.course.Search.spread.Goals as goal

pub loop-op-init : goal.loop-op-init
loop-op-init g c = (c.requires.next_of_task, omega arith, refl, refl, refl, spreads_none c.args.task.now (g.E.Estimator.may_answer c.args.guide.now c.args.task.now) c.args.place c.args.state.now c.args.self.now)

pub try_op-requires-clause-table : goal.try_op-requires-clause-table
try_op-requires-clause-table g c = ap (λ (t : StateList). t.facts) c.loop-op.invariant.4 ∙ c.requires.table

pub try_op-requires-clause-asked : goal.try_op-requires-clause-asked
try_op-requires-clause-asked g c =
    let inv = c.loop-op.invariant in
    same_asked (g.E.Estimator.may_answer c.args.guide.now c.args.task.now) c.args.self.now.table.states c.loop-op.self.table.states c.args.self.now.estimates.items c.loop-op.self.estimates.items
    (ap (λ (t : StateList). t.states) inv.4) inv.3 c.requires.asked

pub loop-op-preserved : goal.loop-op-preserved
loop-op-preserved g c =
    let inv = c.loop-op.invariant in
    let long = inv.1 in
    let more = c.in_ok-try_op.ensures.len in
    let test = c.loop-op-test.true in
    let ops = c.len-ops.ensures in (
      c.try_op.ensures.facts ∙ inv.0,
      omega (arith, long, more),
      ◌∙◌ {A = List ℕ} c.in_ok-try_op.ensures.expanded inv.2,
      ◌∙◌ {A = List ℕ} c.in_ok-try_op.ensures.estimates inv.3,
      ◌∙◌ {A = StateList} c.in_ok-try_op.ensures.table inv.4,
      spreads_more c.args.task.now (g.E.Estimator.may_answer c.args.guide.now c.args.task.now) c.args.place c.args.state.now c.args.self.now c.loop-op.op c.loop-op.self c.try_op.new.self (omega (arith, test, ops)) inv.5 c.in_ok-try_op.ensures.tries,
    )

pub returns-clause-spreads : goal.returns-clause-spreads
returns-clause-spreads g c =
    let inv = c.loop-op.invariant in
    let test = c.loop-op-test.false in
    let end = c.loop-op.auto.op-end in
    let ops = c.len-ops.ensures in
    let e : c.loop-op.op ≡ length c.args.task.now.ops = omega (arith, test, end, ops) in
    subst (λ k. Spreads c.args.task.now (g.E.Estimator.may_answer c.args.guide.now c.args.task.now) c.args.place c.args.state.now c.args.self.now k c.loop-op.self) e inv.5
