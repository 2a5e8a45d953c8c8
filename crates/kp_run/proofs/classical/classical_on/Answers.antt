use Rattle.std.proofs.Common.{◌≡◌, length, subst, IfOk}
use Rattle.kp_words.specs.Asked.{Asked}
use Rattle.kp_run_classical.specs.Classical.{AnswersClassical}
use Rattle.kp_run_solve.specs.Solving.{SolvesClassical}
use Rattle.kp_run.proofs.Searches.{classical_goes, classical_ends}
use Rattle.kp_run.proofs.classical.classical_on.Goals as goal

-- the command goes on
pub returns-in-Ok : goal.returns-in-Ok
returns-in-Ok c x y front second =
    let posed = c.in-Ok.posed in
    classical_goes c.args.asked.now x y posed c.solve_classical.result (subst (AnswersClassical x y) c.in-Ok.is (c.prepare_classical.ensures x y front second))
    (subst (λ (k : Asked). length posed.task.ops ≡ length posed.ground.actions → IfOk c.solve_classical.result (SolvesClassical k.budget posed.ground posed.task)) c.asked.view_is c.solve_classical.ensures)

-- it ends early
pub returns-in-Err : goal.returns-in-Err
returns-in-Err c x y front second = classical_ends c.args.asked.now x y c.in-Err.early c.settle.result (subst (AnswersClassical x y) c.in-Err.is (c.prepare_classical.ensures x y front second)) c.settle.ensures
