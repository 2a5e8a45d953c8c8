-- What the steps of a plan of the written files come to, or which of them comes to nothing.
use Rattle.std.specs.Prelude.{◌≡◌, List, ◌∷◌, ◌++◌, Some, None, Result, Ok, Err, IsSome}
use Rattle.kp_base.specs.declared.ground.GroundName.{GroundName}
use Rattle.kp_base.specs.declared.refused.Stop.{Stop}
use Rattle.kp_base.specs.declared.refused.Stop.TheVariants as stops
use Rattle.kp_base.specs.declared.refused.Refused.TheVariants as refusals
use Rattle.kp_names_semantics.specs.Strip.{stripped, strip}
use Rattle.kp_plans.specs.declared.step.PlanStep.{PlanStep}
use Rattle.kp_plans.specs.PlanFiles.{step_names}

-- the first step that is no operator's
pub record IsFirstUnstripped (steps : List PlanStep) (step : PlanStep) : Type 0 where
  pub before : List PlanStep
  pub after : List PlanStep
  pub is : steps ≡ before ++ step ∷ after
  pub stripped_before : IsSome (strip (step_names before))
  pub not_stripped : stripped step.name.head step.name.objects ≡ None

-- of steps: what they come to, or the refusal of the first that is no operator's at its place; want of memory is free
abbrev pub AnswersStrip : List PlanStep → Result (List GroundName) Stop → Type 0
AnswersStrip steps (Ok actions) = strip (step_names steps) ≡ Some actions
AnswersStrip steps (Err stops.Memory) = Unit {0}
AnswersStrip steps (Err (stops.Refused r)) = (step : PlanStep) × (IsFirstUnstripped steps step × (r ≡ refusals.PlanSyntax step.place))
