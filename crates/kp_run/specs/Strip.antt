-- What `strip` comes to.
use Rattle.std.specs.Prelude.{◌≡◌, ◌<◌, ◌≤◌, List, ℕ, Some, length}
use Rattle.kp_base.specs.declared.ground.GroundName.{GroundName}
use Rattle.kp_base.specs.declared.refused.Part.TheVariants as parts
use Rattle.kp_base.specs.declared.refused.Refused.{Refused}
use Rattle.kp_base.specs.declared.refused.Refused.TheVariants as refusals
use Rattle.kp_names_semantics.specs.Strip.{strip}
use Rattle.kp_plans.specs.declared.step.PlanStep.{PlanStep}
use Rattle.kp_plans.specs.PlanFiles.{step_names, IsPlanFile, RefusesPlan}
use Rattle.kp_plans.specs.Printed.{plan_text}
use Rattle.kp_plans.specs.Stripping.{IsFirstUnstripped}
use Rattle.kp_run_messages.specs.Refusals.{nothing}
use Rattle.kp_run_outcome.specs.declared.outcome.Outcome.{Outcome}
use Rattle.kp_base.specs.Files.{most_bytes}
use Rattle.kp_run_outcome.specs.Printing.{prints}
use Rattle.kp_run_prepare.specs.Refusing.{refuses}

-- a text is stripped to this: a refusal of its length, of the text, or of its first step that is no operator's, at its place; or what its steps come to is printed
pub data StripsText (text : List ℕ) (o : Outcome) : Type 0 where
  too_long : most_bytes < length text → o ≡ refuses nothing (refusals.TooLong parts.Plan) → StripsText text o
  no_plan : (r : Refused) → length text ≤ most_bytes → RefusesPlan text r → o ≡ refuses nothing r → StripsText text o
  no_strip : (steps : List PlanStep) (step : PlanStep) → length text ≤ most_bytes → IsPlanFile text steps → IsFirstUnstripped steps step → o ≡ refuses nothing (refusals.PlanSyntax step.place) → StripsText text o
  strips : (steps : List PlanStep) (actions : List GroundName) → length text ≤ most_bytes → IsPlanFile text steps → strip (step_names steps) ≡ Some actions → o ≡ prints (plan_text actions) → StripsText text o
