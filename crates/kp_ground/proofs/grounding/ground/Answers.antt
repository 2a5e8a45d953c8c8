use Rattle.std.proofs.Common.{ap, subst}
use Rattle.std.proofs.lemmas.Result.{err_from_is_err_and}
use Rattle.kp_names.specs.View.{lifted_view}
use Rattle.kp_ground.specs.Grounded.{IsGrounded, StopsGround}
use Rattle.kp_ground.proofs.grounding.ground.Goals as goal

-- it is refused
pub returns-in_err-made : goal.returns-in_err-made
returns-in_err-made c =
    let p = err_from_is_err_and c.from_residual-in_err-made.result c.from_residual-in_err-made.ensures.1 in
    rw (p.1, p.2) (subst (λ l. StopsGround l c.args.limits.now c.in_err-made.field-0.0) (ap lifted_view c.in_ok-statics.ensures) c.in_err-made.ensures)

-- its ground problem
pub returns : goal.returns
returns c = subst (λ l. IsGrounded l c.args.limits.now c.in_ok-made.made) (ap lifted_view c.in_ok-statics.ensures) c.in_ok-made.ensures
