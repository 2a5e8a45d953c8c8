use Rattle.std.proofs.Common.{List, subst}
use Rattle.kp_base.specs.declared.ground.Action.{Action}
use Rattle.kp_plans.specs.declared.step.PlanStep.{PlanStep}
use Rattle.kp_plans.specs.Found.{AnswersSteps, action_names, action_of}
use Rattle.kp_plans.specs.WordTables.{IsTableOf, step_under}
use Rattle.kp_plans.proofs.StepsFound.{found_same}
use Rattle.kp_plans.proofs.finding.find_steps.Goals as goal

-- what the table has for a name is the number of its action
pub returns : goal.returns
returns c =
    let table = subst (λ (actions : List Action). IsTableOf c.in_ok-table.table (action_names actions)) c.slice.ensures c.in_ok-table.ensures in
    found_same (step_under c.in_ok-table.table) (action_of c.args.form.now.actions) (λ s. table.finds s.name) c.args.steps.now c.find_all.result
    (subst (λ (steps : List PlanStep). AnswersSteps (step_under c.in_ok-table.table) steps c.find_all.result) c.slice-2.ensures c.find_all.ensures)
