use Rattle.std.proofs.Common.{[], sym, subst}
use Rattle.kp_primes.specs.Held.{formula}
use Rattle.kp_width.specs.Rows.{AreRows}
use Rattle.kp_width.proofs.InTurn.{at_itself, reached}
use Rattle.kp_width.proofs.Ended.{cut_off_so, with_row, without_row}
use Rattle.kp_width.proofs.measure.rows_of.Goals as goal

-- no target so far
pub loop-target-init : goal.loop-target-init
loop-target-init c = subst (AreRows c.args.limit c.args.bound c.args.problem.now.ground.now (formula c.args.problem.now.primes.now) []) (sym c.new-rows.ensures) AreRows.done

pub loop-target-preserved : goal.loop-target-preserved
loop-target-preserved c =
    let ts = c.args.targets.now in
    let k = c.loop-target.target-index in
    with_row c.args.limit c.args.bound c.args.problem.now.ground.now (formula c.args.problem.now.primes.now) ts k _ c.loop-target.rows c.add_row.new.rows _
    c.loop-target-test.true (at_itself ts k _ c.loop-target-test.true) c.loop-target.invariant c.if-not-branch.false c.in_ok-add_row.ensures

-- the target is refused
pub returns-in_err-add_row : goal.returns-in_err-add_row
returns-in_err-add_row c =
    let ts = c.args.targets.now in
    let k = c.loop-target.target-index in
    cut_off_so c.args.limit c.args.bound c.args.problem.now.ground.now (formula c.args.problem.now.primes.now) ts k _ c.loop-target.rows c.add_row.new.rows c.in_err-add_row.field-0.0 c.from_residual.result
    c.loop-target-test.true (at_itself ts k _ c.loop-target-test.true) c.loop-target.invariant c.in_err-add_row.ensures c.from_residual.ensures.1

-- the target has no cover
pub returns-then-not-branch : goal.returns-then-not-branch
returns-then-not-branch c =
    let ts = c.args.targets.now in
    let k = c.loop-target.target-index in (
      reached c.args.limit c.args.bound c.args.problem.now.ground.now (formula c.args.problem.now.primes.now) ts k _ c.loop-target.rows c.loop-target-test.true (at_itself ts k _ c.loop-target-test.true) c.loop-target.invariant,
      without_row c.args.limit c.args.bound c.args.problem.now.ground.now (formula c.args.problem.now.primes.now) _ c.loop-target.rows c.add_row.new.rows _ c.if-not-branch.true c.in_ok-add_row.ensures,
    )
