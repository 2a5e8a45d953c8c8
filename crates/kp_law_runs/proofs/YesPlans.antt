-- The verdict on steps is yes exactly where they are a plan of the two texts.
use Rattle.std.proofs.Common.{◌≡◌, ◌∙◌, ℕ, not, List, Some, is_some, map, length, refl, sym, ap, subst}
use Rattle.std.proofs.lemmas.Bool.{and_parts, false≢true}
use Rattle.kp_base.specs.declared.ground.Ground.{Ground}
use Rattle.kp_base.specs.declared.ground.Initial.{Initial}
use Rattle.kp_base.specs.Steps.{is_model, IsGroundPlan}
use Rattle.kp_init.proofs.Public.{plan_of_texts}
use Rattle.kp_run_prepare.proofs.Public.{numbers_of_names_once}
use Rattle.kp_primes_first_model.specs.Ordered.{state_of_atoms}
use Rattle.kp_check.specs.declared.answer.Judged.{Judged}
use Rattle.kp_check.specs.declared.answer.Judged.TheVariants.{Yes, No}
use Rattle.kp_check.specs.Judging.{IsVerdict, fails}
use Rattle.kp_plans.specs.declared.step.PlanStep.{PlanStep}
use Rattle.kp_plans.specs.PlanFiles.{step_names}
use Rattle.kp_law_translation.specs.OfTrees.{ground_of, initial_of}
use Rattle.kp_run_inputs.proofs.Public.{found_actions_are_named, named_are_all_found}
use Rattle.kp_law_translation.proofs.Public.{initial_states_are_models}
use Rattle.kp_law_runs.specs.Laws.{YesIsAPlan, UnknownStepsAreNoPlan}

-- ---- verdicts

-- where the steps are a plan from each model, no model fails
yes_of : (n : ℕ) (g : Ground) (i : Initial) (ns : List ℕ) (j : Judged) → IsVerdict n g i ns j → IsGroundPlan g i ns → j ≡ Yes
yes_of n g i ns Yes answers plan = refl
yes_of n g i ns (No ps k l) answers plan =
    let parts = and_parts (is_model i (state_of_atoms ps)) (fails g ns (state_of_atoms ps)) answers.0.0.passed in
    absurd (false≢true (sym (ap not (plan (state_of_atoms ps) parts.0)) ∙ parts.1))

plan_of : (n : ℕ) (g : Ground) (i : Initial) (ns : List ℕ) (j : Judged) → IsVerdict n g i ns j → j ≡ Yes → IsGroundPlan g i ns
plan_of n g i ns j answers is = subst (IsVerdict n g i ns) is answers

pub yes_is_a_plan : YesIsAPlan
yes_is_a_plan domain problem x has steps numbers j known answers =
    let model = (initial_states_are_models x.domain x.problem x.no_fault).0 has in
    let texts = plan_of_texts domain problem x model.state model.model (step_names steps) in
    let named = found_actions_are_named (ground_of x.domain x.problem) steps numbers known in (
      (λ is. texts.1 (numbers, record { names = named; plan = plan_of (length (ground_of x.domain x.problem).atoms) (ground_of x.domain x.problem) (initial_of x.domain x.problem) numbers j answers is })),
      (λ plan.
          let run = texts.0 plan in
          let same = numbers_of_names_once x.domain x.problem x.no_fault (step_names steps) run.0 numbers run.1.names named in
          yes_of (length (ground_of x.domain x.problem).atoms) (ground_of x.domain x.problem) (initial_of x.domain x.problem) numbers j answers (subst (IsGroundPlan (ground_of x.domain x.problem) (initial_of x.domain x.problem)) same run.1.plan)),
    )

-- ---- a step that names no action

pub unknown_steps_are_no_plan : UnknownStepsAreNoPlan
unknown_steps_are_no_plan domain problem x has steps number first plan =
    let model = (initial_states_are_models x.domain x.problem x.no_fault).0 has in
    let run = (plan_of_texts domain problem x model.state model.model (step_names steps)).0 plan in
    let g = ground_of x.domain x.problem in
    let found = named_are_all_found g first.before first.step first.after run.0 (run.1.names ∙ ap (λ (ss : List PlanStep). map Some (step_names ss)) first.is) in
    absurd (false≢true (sym (ap is_some first.unknown) ∙ found))
