use Rattle.std.proofs.Common.{length, sym, subst, IfOk}
use Rattle.kp_run_solve.specs.Operators.{IsInside}
use Rattle.kp_run_solve.specs.Solving.{TellsClassical}
use Rattle.kp_run_solve.proofs.telling.tell_classical.Goals as goal

-- a plan is told
pub returns-in-Plan : goal.returns-in-Plan
returns-in-Plan c inside =
    let g = c.args.ground.now in
    subst (λ found. IfOk c.tell_actions.result (TellsClassical g found)) (sym c.in-Plan.is) (c.tell_actions.ensures 0 (subst (IsInside (length g.actions)) c.in-Plan.is inside))
