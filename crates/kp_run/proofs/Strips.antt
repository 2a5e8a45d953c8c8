-- What a text is stripped to, from what the code finds.
use Rattle.std.proofs.Common.{◌≡◌, ◌<◌, ◌≤◌, ℕ, List, Some, length, Result, Ok, Err, IfOk, ap, ◌∙◌}
use Rattle.kp_base.specs.declared.ground.GroundName.{GroundName}
use Rattle.kp_base.specs.declared.memory.Memory.{Memory}
use Rattle.kp_base.specs.declared.refused.Part.TheVariants as parts
use Rattle.kp_base.specs.declared.refused.Refused.{Refused}
use Rattle.kp_base.specs.declared.refused.Refused.TheVariants as refusals
use Rattle.kp_base.specs.declared.refused.Stop.TheVariants as stops
use Rattle.kp_names_semantics.specs.Strip.{strip}
use Rattle.kp_run_outcome.specs.declared.outcome.Outcome.{Outcome}
use Rattle.kp_run_outcome.specs.Printing.{prints}
use Rattle.kp_base.specs.Files.{most_bytes}
use Rattle.kp_plans.specs.declared.step.PlanStep.{PlanStep}
use Rattle.kp_plans.specs.PlanFiles.{step_names, IsPlanFile, RefusesPlan}
use Rattle.kp_plans.specs.Printed.{plan_text}
use Rattle.kp_plans.specs.Stripping.{AnswersStrip}
use Rattle.kp_run_messages.specs.Refusals.{nothing}
use Rattle.kp_run_prepare.specs.Refusing.{refuses}
use Rattle.kp_run.specs.Strip.{StripsText, too_long, no_plan, no_strip, strips}

-- a step is refused
pub refused_step : (text : List ℕ) (steps : List PlanStep) (r : Refused) (result : Result Outcome Memory) → length text ≤ most_bytes → IsPlanFile text steps → AnswersStrip steps (Err (stops.Refused r)) → IfOk result (λ o. o ≡ refuses nothing r) → IfOk result (StripsText text)
refused_step text steps r (Ok o) short plan first is = no_strip steps first.0 short plan first.1.0 (is ∙ ap (refuses nothing) first.1.1)
refused_step text steps r (Err m) short plan first is = tt

-- the plan file is refused
pub refused_plan : (text : List ℕ) (r : Refused) (result : Result Outcome Memory) → length text ≤ most_bytes → RefusesPlan text r → IfOk result (λ o. o ≡ refuses nothing r) → IfOk result (StripsText text)
refused_plan text r (Ok o) short refused is = no_plan r short refused is
refused_plan text r (Err m) short refused is = tt

-- it is too long
pub refused_length : (text : List ℕ) (result : Result Outcome Memory) → most_bytes < length text → IfOk result (λ o. o ≡ refuses nothing (refusals.TooLong parts.Plan)) → IfOk result (StripsText text)
refused_length text (Ok o) long is = too_long long is
refused_length text (Err m) long is = tt

-- what the steps come to is printed
pub printed_steps : (text : List ℕ) (steps : List PlanStep) (actions : List GroundName) (o : Outcome) → length text ≤ most_bytes → IsPlanFile text steps → strip (step_names steps) ≡ Some actions → o ≡ prints (plan_text actions) → StripsText text o
printed_steps text steps actions o short plan is printed = strips steps actions short plan is printed
