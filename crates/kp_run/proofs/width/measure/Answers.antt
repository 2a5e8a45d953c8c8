use Rattle.std.proofs.Common.{Err, IfOk, subst}
use Rattle.kp_base.specs.declared.limits.Limits.{Limits}
use Rattle.kp_base.specs.Entailed.{HaveSameModels}
use Rattle.kp_primes.specs.Held.{formula}
use Rattle.kp_width.specs.Answers.{IsReport, AnswersWidth}
use Rattle.kp_run_prepare.specs.declared.prepared.Prepared.{Prepared}
use Rattle.kp_run_inputs.proofs.Public.{related_pairs}
use Rattle.kp_run.specs.Width.{WidthGround}
use Rattle.kp_run.proofs.Widths.{report_told, refusal_told}
use Rattle.kp_run.proofs.width.measure.Goals as goal

pub width-requires-clause-relevance : goal.width-requires-clause-relevance
width-requires-clause-relevance c = related_pairs c.in_ok-related.related

-- there is a report
pub returns-in-Ok : goal.returns-in-Ok
returns-in-Ok c j =
    let x = c.in_ok-related.related.prepared in
    subst (λ (y : Prepared). HaveSameModels (formula y.primes) j → IfOk c.tell_width.result (WidthGround c.args.bound y.ground j)) c.in_ok-related.ensures
    (λ same. report_told c.args.bound x.ground (formula x.primes) j same c.in-Ok.report c.tell_width.result (subst (λ (m : Limits). IsReport m c.args.bound x.ground (formula x.primes) c.in-Ok.report) c.usual.ensures c.in-Ok.ensures) c.tell_width.ensures)

-- there is none
pub returns : goal.returns
returns c j =
    let x = c.in_ok-related.related.prepared in
    subst (λ (y : Prepared). HaveSameModels (formula y.primes) j → IfOk c.settle.result (WidthGround c.args.bound y.ground j)) c.in_ok-related.ensures
    (λ same. refusal_told c.args.bound x.ground (formula x.primes) j same c.in-Err.stop c.ended_in.result c.settle.result (subst (λ (m : Limits). AnswersWidth m c.args.bound x.ground (formula x.primes) (Err c.in-Err.stop)) c.usual.ensures c.in-Err.ensures) c.ended_in.ensures c.settle.ensures)
