use Rattle.std.proofs.Common.{◌∙◌, ℕ, List, Err, refl, subst}
use Rattle.kp_base.specs.declared.refused.Stop.TheVariants as causes
use Rattle.kp_base.specs.Files.{most_bytes}
use Rattle.kp_plans.specs.PlanFiles.{IsPlanFile, AnswersPlan}
use Rattle.kp_run_prepare.proofs.Public.{whole_content_is_read}
use Rattle.kp_run_inputs.proofs.Public.{read_over_length, read_within_length}
use Rattle.kp_run.proofs.Strips.{refused_length, refused_plan}
use Rattle.kp_run.proofs.strip.strip_text.Goals as goal

-- there are more bytes than may be
pub returns-then-got : goal.returns-then-got
returns-then-got c text front = refused_length text c.refuse.result (read_over_length most_bytes text c.args.got.more refl front.1 c.if-got.true) c.refuse.ensures

-- the text is a plan
pub returns-in-Ok : goal.returns-in-Ok
returns-in-Ok c text front =
    let same = c.slice.ensures ∙ whole_content_is_read most_bytes text c.args.got.bytes c.args.got.more front.0 front.1 c.if-got.false in
    c.strip_steps.ensures text (read_within_length most_bytes text c.args.got.more refl front.1 c.if-got.false) (subst (λ (bytes : List ℕ). IsPlanFile bytes c.in-Ok.steps) same c.in-Ok.ensures)

-- it is refused
pub returns-in-Err-Refused : goal.returns-in-Err-Refused
returns-in-Err-Refused c text front =
    let same = c.slice.ensures ∙ whole_content_is_read most_bytes text c.args.got.bytes c.args.got.more front.0 front.1 c.if-got.false in
    let here = subst (λ s. AnswersPlan c.slice.result.now (Err s)) c.in-Err-Refused.field-0-is c.in-Err-Refused.ensures in
    refused_plan text c.in-Err-Refused.refused c.refuse-in-Err-Refused.result (read_within_length most_bytes text c.args.got.more refl front.1 c.if-got.false) (subst (λ (bytes : List ℕ). AnswersPlan bytes (Err (causes.Refused c.in-Err-Refused.refused))) same here) c.refuse-in-Err-Refused.ensures
