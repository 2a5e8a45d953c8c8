use Rattle.std.proofs.Common.{List, Err, subst}
use Rattle.std.proofs.lemmas.Result.{err_from_is_err_and}
use Rattle.kp_lex.specs.declared.token.Token.{Token}
use Rattle.kp_plans.specs.Steps.{AnswersCut, IsTold}
use Rattle.kp_plans.proofs.WholePlans.{uncut, refused}
use Rattle.kp_plans.proofs.reading.read_plan.Goals as goal

-- a byte begins no token
pub returns-in_err-tokens : goal.returns-in_err-tokens
returns-in_err-tokens c =
    let p = err_from_is_err_and c.from_residual.result c.from_residual.ensures.1 in
    rw (p.1, p.2) (uncut c.args.bytes.now c.in_err-tokens.field-0.0 c.in_err-tokens.ensures.right)

-- a token is refused
pub returns : goal.returns
returns c =
    let cut : AnswersCut c.args.bytes.now c.in_ok-tokens.tokens (Err c.in-Err.halt) = subst (λ (ts : List Token). AnswersCut c.args.bytes.now ts (Err c.in-Err.halt)) c.slice.ensures c.in-Err.ensures in
    refused c.args.bytes.now c.in_ok-tokens.tokens c.in-Err.halt c.told.result c.in_ok-tokens.ensures.right cut (subst (λ (ts : List Token). IsTold c.args.bytes.now ts c.in-Err.halt c.told.result) c.slice-in-Err.ensures c.told.ensures)
