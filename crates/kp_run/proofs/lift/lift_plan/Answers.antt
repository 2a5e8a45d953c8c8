use Rattle.std.proofs.Common.{subst}
use Rattle.kp_run_inputs.specs.Tabled.{ground_in}
use Rattle.kp_run_inputs.specs.Actions.{AnswersActions}
use Rattle.kp_run_inputs.proofs.Public.{plan_goes, plan_ends}
use Rattle.kp_run.specs.Lift.{LiftsActions}
use Rattle.kp_run.proofs.lift.lift_plan.Goals as goal

-- the plan names actions
pub returns-in-Ok : goal.returns-in-Ok
returns-in-Ok c text front =
    let t = c.args.translated.now.tabled in
    let g = ground_in t in
    plan_goes g text (LiftsActions g t.table) c.in-Ok.numbers c.lift_actions.result (subst (AnswersActions g text) c.in-Ok.is (c.actions_of.ensures.answers text front)) c.lift_actions.ensures

-- it names none
pub returns-in-Err : goal.returns-in-Err
returns-in-Err c text front =
    let t = c.args.translated.now.tabled in
    let g = ground_in t in
    plan_ends g text (LiftsActions g t.table) c.in-Err.early c.settle.result (subst (AnswersActions g text) c.in-Err.is (c.actions_of.ensures.answers text front)) c.settle.ensures
