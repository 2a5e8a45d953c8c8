use Rattle.std.proofs.Common.{subst, IfOk}
use Rattle.kp_run_inputs.specs.declared.tabled.Tabled.{Tabled}
use Rattle.kp_run_inputs.specs.Actions.{ComesByPlan}
use Rattle.kp_run_inputs.specs.Tabled.{ground_in}
use Rattle.kp_run_inputs.specs.Tasks.{AnswersTask}
use Rattle.kp_run_inputs.proofs.Public.{task_goes, task_ends}
use Rattle.kp_run.specs.Lift.{LiftsActions, LiftsPlan}
use Rattle.kp_run.proofs.lift.lift_with.Goals as goal

-- the task is within the limits
pub returns-in-Ok : goal.returns-in-Ok
returns-in-Ok c text front =
    let x = c.in-Ok.translated in
    let t = x.tabled in
    subst (λ (v : Tabled). IfOk c.lift_plan.result (LiftsPlan (ground_in v) text v.table)) (subst (AnswersTask c.args.tabled) c.in-Ok.is c.translated_of.ensures)
    (task_goes (ground_in t) t.table (ComesByPlan (ground_in t) text (LiftsActions (ground_in t) t.table)) c.lift_plan.result x.fits (c.lift_plan.ensures text front))

-- it isn't
pub returns-in-Err : goal.returns-in-Err
returns-in-Err c text front =
    let t = c.args.tabled in
    task_ends (ground_in t) t.table (ComesByPlan (ground_in t) text (LiftsActions (ground_in t) t.table)) c.in-Err.early c.settle.result (subst (AnswersTask t) c.in-Err.is c.translated_of.ensures) c.settle.ensures
