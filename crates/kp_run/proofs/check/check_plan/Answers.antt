use Rattle.std.proofs.Common.{subst}
use Rattle.kp_primes.specs.Held.{formula}
use Rattle.kp_run_inputs.specs.Actions.{AnswersActions}
use Rattle.kp_run_inputs.proofs.Public.{plan_goes, plan_ends}
use Rattle.kp_run.specs.Check.{TellsJudged}
use Rattle.kp_run.proofs.Checks.{judged_alike}
use Rattle.kp_run.proofs.check.check_plan.Goals as goal

-- the plan names actions
pub returns-in-Ok : goal.returns-in-Ok
returns-in-Ok c text i front same =
    let g = c.args.prepared.now.ground in
    plan_goes g text (TellsJudged g i) c.in-Ok.numbers c.judge.result (subst (AnswersActions g text) c.in-Ok.is (c.actions_of.ensures.answers text front))
    (judged_alike g (formula c.args.prepared.now.primes) i c.in-Ok.numbers c.judge.result same c.judge.ensures)

-- it names none
pub returns-in-Err : goal.returns-in-Err
returns-in-Err c text i front same =
    let g = c.args.prepared.now.ground in
    plan_ends g text (TellsJudged g i) c.in-Err.early c.settle.result (subst (AnswersActions g text) c.in-Err.is (c.actions_of.ensures.answers text front)) c.settle.ensures
