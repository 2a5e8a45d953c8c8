use Rattle.std.proofs.lemmas.Result.{err_from_is_err_and}
use Rattle.kp_plans.proofs.StepsRead.{unopened, unnamed, unclosed, stands}
use Rattle.kp_plans.proofs.reading.step_at.Goals as goal

pub returns-then-not-is_left-clause-stopped : goal.returns-then-not-is_left-clause-stopped
returns-then-not-is_left-clause-stopped c = unopened c.args.tokens.now c.args.at c.if-not-is_left.ensures.test

pub returns-in_err-words-clause-stopped : goal.returns-in_err-words-clause-stopped
returns-in_err-words-clause-stopped c =
    let p = err_from_is_err_and c.from_residual.result c.from_residual.ensures.1 in
    let h = c.in_err-words.ensures.stopped in
    rw (p.1, p.2, h.0) (unnamed c.args.tokens.now c.args.at c.if-not-is_left.ensures.opens h.1)

pub returns-in_err-behind-clause-stopped : goal.returns-in_err-behind-clause-stopped
returns-in_err-behind-clause-stopped c =
    let p = err_from_is_err_and c.from_residual-in_err-behind.result c.from_residual-in_err-behind.ensures.1 in
    let h = c.in_err-behind.ensures.stopped in
    rw (p.1, p.2, h.0, c.len.ensures) (unclosed c.args.tokens.now c.args.at c.in_ok-words.words c.if-not-is_left.ensures.opens c.in_ok-words.ensures.found (rw c.len.ensures at h.1))

pub returns-clause-found : goal.returns-clause-found
returns-clause-found c = stands c.args.tokens.now c.args.at _ _ c.if-not-is_left.ensures.opens c.in_ok-words.ensures.found (rw c.len.ensures at c.in_ok-behind.ensures.found)
