use Rattle.std.proofs.Common.{◌∙◌, Err, ap, subst}
use Rattle.kp_plans.specs.Stripping.{AnswersStrip}
use Rattle.kp_run_outcome.specs.Printing.{prints}
use Rattle.kp_run.proofs.Strips.{refused_step, printed_steps}
use Rattle.kp_run.proofs.strip.strip_steps.Goals as goal

-- each step is an operator's
pub returns-in_ok-plan_text-in-Ok : goal.returns-in_ok-plan_text-in-Ok
returns-in_ok-plan_text-in-Ok c text short plan = printed_steps text c.args.steps.now c.in-Ok.actions c.print_text.result short plan c.in-Ok.ensures (c.print_text.ensures ∙ ap prints c.in_ok-plan_text-in-Ok.ensures.value)

-- one isn't
pub returns-in-Err-Refused : goal.returns-in-Err-Refused
returns-in-Err-Refused c text short plan =
    refused_step text c.args.steps.now c.in-Err-Refused.refused c.refuse.result short plan (subst (λ s. AnswersStrip c.args.steps.now (Err s)) c.in-Err-Refused.field-0-is c.in-Err-Refused.ensures) c.refuse.ensures
