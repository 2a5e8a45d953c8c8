use Rattle.std.proofs.Common.{Some, None, subst, arith}
use Rattle.kp_search.specs.Kept.{IsEmpty}
use Rattle.kp_search.proofs.Turning.{at_lost, at_begun}
use Rattle.kp_search.proofs.turns.begin.Goals as goal

pub returns-in-None : goal.returns-in-None
returns-in-None g c =
    let answers = g.E.Estimator.may_answer c.args.guide.now c.args.task.now in
    let room = c.in_ok-search.ensures.room in
    at_lost c.args.task.now c.requires.fit answers c.args.budget c.in_ok-search.search
    (subst (λ n. IsEmpty n c.in_ok-search.search) c.len.ensures c.in_ok-search.ensures.empty) (omega (arith, room))
    (subst (λ s. answers s None) c.requires.first (subst (answers c.args.first.now) c.in-None.is c.in_ok-estimate.ensures.answers))

pub returns-in_ok-enter-in-Some : goal.returns-in_ok-enter-in-Some
returns-in_ok-enter-in-Some g c =
    let answers = g.E.Estimator.may_answer c.args.guide.now c.args.task.now in
    let room = c.in_ok-search.ensures.room in
    at_begun c.args.task.now c.requires.fit answers c.args.budget c.in_ok-search.search c.enter.new.self c.in-Some.estimate
    (subst (λ n. IsEmpty n c.in_ok-search.search) c.len.ensures c.in_ok-search.ensures.empty) (omega (arith, room))
    (subst (λ s. answers s (Some c.in-Some.estimate)) c.requires.first (subst (answers c.args.first.now) c.in-Some.is c.in_ok-estimate.ensures.answers))
    c.in_ok-enter-in-Some.ensures
