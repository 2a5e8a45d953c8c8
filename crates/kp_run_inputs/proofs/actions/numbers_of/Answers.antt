use Rattle.std.proofs.Common.{◌<◌, Err, sym, subst}
use Rattle.kp_plans.specs.Found.{AnswersSteps, action_of}
use Rattle.kp_run_inputs.proofs.Ended.{found_below, as_many_numbers, ends_at_step}
use Rattle.kp_run_inputs.proofs.actions.numbers_of.Goals as goal

pub find_steps-requires-clause-few_actions : goal.find_steps-requires-clause-few_actions
find_steps-requires-clause-few_actions c = c.args.prepared.now.of_atoms.few_actions

-- each step is found
pub returns-in-Ok-clause-inside : goal.returns-in-Ok-clause-inside
returns-in-Ok-clause-inside c = found_below c.args.prepared.now.ground c.args.steps c.in-Ok.numbers c.in-Ok.ensures

pub returns-in-Ok-clause-few : goal.returns-in-Ok-clause-few
returns-in-Ok-clause-few c = subst (λ n. n < 2147483648) (sym (as_many_numbers c.args.prepared.now.ground c.args.steps c.in-Ok.numbers c.in-Ok.ensures)) c.requires

-- one isn't
pub returns-in-Err-Refused-clause-answers : goal.returns-in-Err-Refused-clause-answers
returns-in-Err-Refused-clause-answers c =
    ends_at_step c.args.prepared.now.ground c.args.steps c.in-Err-Refused.refused (subst (λ s. AnswersSteps (action_of c.args.prepared.now.ground.actions) c.args.steps (Err s)) c.in-Err-Refused.field-0-is c.in-Err-Refused.ensures) c.end_at_step.result c.end_at_step.ensures
