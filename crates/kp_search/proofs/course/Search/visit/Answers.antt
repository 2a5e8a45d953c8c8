use Rattle.std.proofs.Common.{◌≡◌, ◌∙◌, length, sym, subst, arith, rules, w32}
use Rattle.std.proofs.Math.Facts.{Fits-le}
use Rattle.kp_search.specs.Trace.{EndsWithPlan}
use Rattle.kp_search.proofs.Turning.{taken_known, few, passes, ends_plan, ends_spent, is_true, is_not}
use Rattle.kp_search.proofs.course.Search.visit.Goals as goal

pub ops_to-requires : goal.ops_to-requires
ops_to-requires g c = taken_known c.args.task.now c.requires.fit (g.E.Estimator.may_answer c.args.guide.now c.args.task.now) c.args.budget c.args.key c.args.state.now c.args.self.now c.requires.taken

-- a `u32` counts the expanded entries
pub overflow_cast-expanded : goal.overflow_cast-expanded
overflow_cast-expanded g c =
    let most = few c.args.task.now c.requires.fit (g.E.Estimator.may_answer c.args.guide.now c.args.task.now) c.args.budget c.args.key c.args.state.now c.args.self.now c.requires.taken in
    let e : c.len-expanded.result ≡ length c.args.self.now.expanded.items = search rules in
    Fits-le {w = w32} {m = c.len-expanded.result} {n = c.args.budget} (omega (arith, most, e)) c.ranges.budget

-- the goal is met
pub returns-then-meets-clause-ends : goal.returns-then-meets-clause-ends
returns-then-meets-clause-ends g c =
    let may = g.E.Estimator.may_answer c.args.guide.now c.args.task.now in
    let e : c.len-expanded.result ≡ length c.args.self.now.expanded.items = search rules in
    subst (EndsWithPlan c.args.task.now may c.args.budget c.in_ok-ops.ops) (sym e)
    (ends_plan c.args.task.now c.requires.fit may c.args.budget c.args.key c.args.state.now c.args.self.now c.requires.taken c.in_ok-ops.ops (sym c.meets.ensures ∙ c.if-meets.true) c.in_ok-ops.ensures)

-- the state was taken before
pub returns-then-has-clause-ends : goal.returns-then-has-clause-ends
returns-then-has-clause-ends g c = (
  passes c.args.task.now c.requires.fit (g.E.Estimator.may_answer c.args.guide.now c.args.task.now) c.args.budget c.args.key c.args.state.now c.args.self.now c.requires.taken (c.has.ensures.0 (is_true c.has.result c.if-has.true)),
  omega arith,
)

-- the budget is used up
pub returns-clause-ends : goal.returns-clause-ends
returns-clause-ends g c =
    let e : c.len-expanded.result ≡ length c.args.self.now.expanded.items = search rules in
    let full = c.if-expanded-budget.false in
    ends_spent c.args.task.now c.requires.fit (g.E.Estimator.may_answer c.args.guide.now c.args.task.now) c.args.budget c.args.key c.args.state.now c.args.self.now c.requires.taken
    (is_not c.has.result c.has.ensures c.if-has.false) (sym c.meets.ensures ∙ c.if-meets.false) (omega (arith, e, full))
