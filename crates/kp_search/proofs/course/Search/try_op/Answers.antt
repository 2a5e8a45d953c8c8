use Rattle.std.proofs.Common.{◌∙◌, rules, refl, ap, subst, Some}
use Rattle.kp_search.specs.Turns.Tries.{off, enters}
use Rattle.kp_search.proofs.Watching.{not_found}
use Rattle.kp_search.proofs.course.Search.try_op.Goals as goal

-- its bit isn't set
pub returns-then-not-get-clause-tries : goal.returns-then-not-get-clause-tries
returns-then-not-get-clause-tries g c = off (not_found c.args.task.now c.args.state.now c.args.ready.now c.args.op c.requires.ready (c.get.ensures ∙ ap Some c.if-not-get.true)) refl

pub returns-in_ok-enter-in-Some-clause-tries : goal.returns-in_ok-enter-in-Some-clause-tries
returns-in_ok-enter-in-Some-clause-tries g c =
    let answers = g.E.Estimator.may_answer c.args.guide.now c.args.task.now in
    enters c.in-Some.estimate (search rules)
    (subst (λ s. answers s (Some c.in-Some.estimate)) c.step_into.ensures
    (subst (answers c.step_into.new.next) c.in-Some.is c.in_ok-ask.ensures))
    c.in_ok-enter-in-Some.ensures
