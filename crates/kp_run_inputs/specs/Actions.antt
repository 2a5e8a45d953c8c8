-- The actions of a plan file with which a command goes on, or why there are none.
use Rattle.std.specs.Prelude.{◌≡◌, ◌<◌, ◌≤◌, ℕ, List, Some, Result, Ok, Err, length, map}
use Rattle.kp_base.specs.declared.ground.Ground.{Ground}
use Rattle.kp_base.specs.declared.ground.GroundName.{GroundName}
use Rattle.kp_base.specs.declared.refused.Part.TheVariants as parts
use Rattle.kp_base.specs.declared.refused.Refused.{Refused}
use Rattle.kp_base.specs.declared.refused.Refused.TheVariants as refusals
use Rattle.kp_plans.specs.declared.step.PlanStep.{PlanStep}
use Rattle.kp_plans.specs.PlanFiles.{step_names, IsPlanFile, RefusesPlan}
use Rattle.kp_plans.specs.Found.{action_of, IsFirstUnknown}
use Rattle.kp_run_outcome.specs.declared.outcome.Outcome.{Outcome}
use Rattle.kp_base.specs.Files.{most_bytes}
use Rattle.kp_run_messages.specs.Refusals.{Nameable, nothing}
use Rattle.kp_run_prepare.specs.declared.prepared.Early.{Early}
use Rattle.kp_run_prepare.specs.declared.prepared.Early.TheVariants as halts
use Rattle.kp_run_prepare.specs.Refusing.{refuses}

-- what may be named of a ground problem and the steps of a plan
abbrev pub named_with : Ground → List GroundName → Nameable
named_with g steps = record { atoms = g.atoms; actions = g.actions; steps = steps }

-- the text isn't too long, reads as a plan with these steps, and they name these actions
pub record HasActions (g : Ground) (text : List ℕ) (steps : List PlanStep) (numbers : List ℕ) : Type 0 where
  pub short : length text ≤ most_bytes
  pub reads : IsPlanFile text steps
  pub known : map (action_of g.actions) steps ≡ map Some numbers

-- it names none, and this is refused, with what the refusal may name: the first of these that holds
pub data RefusesActions (g : Ground) (text : List ℕ) : Nameable → Refused → Type 0 where
  long_plan : most_bytes < length text → RefusesActions g text nothing (refusals.TooLong parts.Plan)
  no_plan : (r : Refused) → length text ≤ most_bytes → RefusesPlan text r → RefusesActions g text nothing r
  unknown_step : (steps : List PlanStep) (number : ℕ) → length text ≤ most_bytes → IsPlanFile text steps → IsFirstUnknown (action_of g.actions) steps number → RefusesActions g text (named_with g (step_names steps)) (refusals.StepUnknown number)

-- a command that goes on so with the actions of a plan comes to this: a refusal, or it goes on
pub data ComesByPlan (g : Ground) (text : List ℕ) (goes_on : List ℕ → Outcome → Type 0) (o : Outcome) : Type 0 where
  no_actions : (named : Nameable) (r : Refused) → RefusesActions g text named r → o ≡ refuses named r → ComesByPlan g text goes_on o
  with_actions : (steps : List PlanStep) (numbers : List ℕ) → HasActions g text steps numbers → goes_on numbers o → ComesByPlan g text goes_on o

-- ---- the call

-- a command ends since the plan names no actions
pub record EndsAtPlan (g : Ground) (text : List ℕ) (o : Outcome) : Type 0 where
  pub named : Nameable
  pub refused : Refused
  pub refuses_actions : RefusesActions g text named refused
  pub outcome : o ≡ refuses named refused

-- what is answered: the actions, or the outcome with which a command ends; want of memory is free
abbrev pub AnswersActions : Ground → List ℕ → Result (List ℕ) Early → Type 0
AnswersActions g text (Ok numbers) = (steps : List PlanStep) × HasActions g text steps numbers
AnswersActions g text (Err (halts.With o)) = EndsAtPlan g text o
AnswersActions g text (Err halts.Memory) = Unit {0}

-- ---- on the way; for proofs alone

-- what is answered on the steps of a text
abbrev pub AnswersSteps : Ground → List PlanStep → Result (List ℕ) Early → Type 0
AnswersSteps g steps (Ok numbers) = map (action_of g.actions) steps ≡ map Some numbers
AnswersSteps g steps (Err (halts.With o)) = (number : ℕ) × IsFirstUnknown (action_of g.actions) steps number × (o ≡ refuses (named_with g (step_names steps)) (refusals.StepUnknown number))
AnswersSteps g steps (Err halts.Memory) = Unit {0}
