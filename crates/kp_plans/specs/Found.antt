-- The actions that the steps of a plan name.
use Rattle.std.specs.Prelude.{◌≡◌, ℕ, ◌+◌, true, List, ◌∷◌, ◌++◌, Option, Some, None, is_some, map, length, Result, Ok, Err}
use Rattle.std.specs.List.{list_all}
use Rattle.kp_base.specs.declared.ground.GroundName.{GroundName}
use Rattle.kp_base.specs.declared.ground.Action.{Action}
use Rattle.kp_base.specs.declared.refused.Stop.{Stop}
use Rattle.kp_base.specs.declared.refused.Stop.TheVariants as causes
use Rattle.kp_base.specs.declared.refused.Refused.TheVariants as refusals
use Rattle.kp_plans.specs.declared.step.PlanStep.{PlanStep}
use Rattle.kp_plans.specs.Names.{number_of}

-- the names of actions
abbrev pub action_names : List Action → List GroundName
action_names actions = map (λ a. a.name) actions

-- the number of the first action with the name of a step
abbrev pub action_of : List Action → PlanStep → Option ℕ
action_of actions s = number_of (action_names actions) s.name

-- the first step that isn't found is the one of this number, counted from 1
pub record IsFirstUnknown (find : PlanStep → Option ℕ) (steps : List PlanStep) (number : ℕ) : Type 0 where
  pub before : List PlanStep
  pub step : PlanStep
  pub after : List PlanStep
  pub is : steps ≡ before ++ step ∷ after
  pub counted : number ≡ length before + 1
  pub known_before : list_all (λ s. is_some (find s)) before ≡ true
  pub unknown : find step ≡ None

-- of steps: the number that is found for each, or the refusal of the first that isn't found; want of memory is free
abbrev pub AnswersSteps : (PlanStep → Option ℕ) → List PlanStep → Result (List ℕ) Stop → Type 0
AnswersSteps find steps (Ok numbers) = map find steps ≡ map Some numbers
AnswersSteps find steps (Err causes.Memory) = Unit {0}
AnswersSteps find steps (Err (causes.Refused (refusals.StepUnknown number))) = IsFirstUnknown find steps number
AnswersSteps find steps (Err (causes.Refused _)) = ⊥
