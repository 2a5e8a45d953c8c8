use Rattle.std.proofs.Common.{◌∙◌, ℕ, List, length, Err, refl, ap, subst, arith}
use Rattle.kp_base.specs.declared.refused.Part.TheVariants as parts
use Rattle.kp_base.specs.declared.refused.Refused.TheVariants as refusals
use Rattle.kp_base.specs.Files.{most_bytes}
use Rattle.kp_plans.specs.PlanFiles.{IsPlanFile, AnswersPlan}
use Rattle.kp_run_messages.specs.Refusals.{nothing}
use Rattle.kp_run_prepare.proofs.Public.{whole_content_is_read}
use Rattle.kp_run_inputs.specs.Actions.{long_plan}
use Rattle.kp_run_inputs.proofs.FileMerges.{few_steps}
use Rattle.kp_run_inputs.proofs.Lengths.{over_length, short_length}
use Rattle.kp_run_inputs.proofs.Ended.{ends_at_plan, of_steps, no_plan_file}
use Rattle.kp_run_inputs.proofs.actions.actions_of.Goals as goal

-- there are more bytes than may be
pub returns-then-plan-clause-answers : goal.returns-then-plan-clause-answers
returns-then-plan-clause-answers c text front = ends_at_plan c.args.prepared.now.ground text nothing (refusals.TooLong parts.Plan) (long_plan (over_length most_bytes text c.args.plan.more refl front.1 c.if-plan.true)) c.ended_by.result c.ended_by.ensures

pub numbers_of-requires : goal.numbers_of-requires
numbers_of-requires c =
    let few = few_steps c.slice.result.now c.in-Ok.steps c.in-Ok.ensures in
    let within = c.requires.0 in
    let own = ap length c.slice.ensures in
    omega (arith, few, within, own)

-- the text is a plan
pub returns-in-Ok-clause-answers : goal.returns-in-Ok-clause-answers
returns-in-Ok-clause-answers c text front =
    let its = c.slice.ensures ∙ whole_content_is_read most_bytes text c.args.plan.bytes c.args.plan.more front.0 front.1 c.if-plan.false in
    of_steps c.args.prepared.now.ground text c.in-Ok.steps c.numbers_of.result (short_length most_bytes text c.args.plan.more refl front.1 c.if-plan.false)
    (subst (λ (bytes : List ℕ). IsPlanFile bytes c.in-Ok.steps) its c.in-Ok.ensures) c.numbers_of.ensures.answers

-- it is none
pub returns-clause-answers : goal.returns-clause-answers
returns-clause-answers c text front =
    let its = c.slice.ensures ∙ whole_content_is_read most_bytes text c.args.plan.bytes c.args.plan.more front.0 front.1 c.if-plan.false in
    no_plan_file c.args.prepared.now.ground text c.in-Err.stop (short_length most_bytes text c.args.plan.more refl front.1 c.if-plan.false)
    (subst (λ (bytes : List ℕ). AnswersPlan bytes (Err c.in-Err.stop)) its c.in-Err.ensures) c.ended_by-in-Err.result c.ended_by-in-Err.ensures
