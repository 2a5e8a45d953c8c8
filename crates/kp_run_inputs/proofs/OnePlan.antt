-- A plan file names one list of actions, or has one refusal.
use Rattle.std.proofs.Common.{◌≡◌, ℕ, List, Option, Some, length, map, inl, inr, refl, sym, ap, ◌∙◌, subst, arith}
use Rattle.std.proofs.lemmas.Bool.{cases_lt}
use Rattle.kp_base.specs.declared.refused.Part.TheVariants as parts
use Rattle.kp_base.specs.declared.refused.Refused.{Refused}
use Rattle.kp_base.specs.declared.refused.Refused.TheVariants as refusals
use Rattle.kp_base.specs.declared.ground.Ground.{Ground}
use Rattle.kp_base.proofs.Cases.{some_alike}
use Rattle.kp_law_decidable.proofs.Public.{first_unknown_once, all_found_or_first_unknown, steps_decided}
use Rattle.kp_base.specs.Files.{most_bytes}
use Rattle.kp_plans.specs.declared.step.PlanStep.{PlanStep}
use Rattle.kp_plans.specs.PlanFiles.{step_names, IsPlanFile}
use Rattle.kp_plans.specs.Found.{action_of, IsFirstUnknown}
use Rattle.kp_plans.proofs.Public.{plans_read_once, plans_refuse_once, plans_never_both, plans_always_one}
use Rattle.kp_run_messages.specs.Refusals.{Nameable, nothing}
use Rattle.kp_run_inputs.specs.Actions.{named_with, HasActions, RefusesActions, long_plan, no_plan, unknown_step}
use Rattle.kp_run_inputs.specs.Laws.{PlansHaveOneList, PlansAreDecided}

module _ (g : Ground) (text : List ℕ) where
  abbrev find : PlanStep → Option ℕ
  find = action_of g.actions

  same_actions : (ss ts : List PlanStep) (ms ns : List ℕ) → HasActions g text ss ms → HasActions g text ts ns → ms ≡ ns
  same_actions ss ts ms ns h k = some_alike ms ns (sym h.known ∙ (ap (map find) (plans_read_once text ss ts h.reads k.reads) ∙ k.known))

  same_number : (ss ts : List PlanStep) (m n : ℕ) → IsPlanFile text ss → IsPlanFile text ts → IsFirstUnknown find ss m → IsFirstUnknown find ts n → m ≡ n
  same_number ss ts m n h k a b = first_unknown_once find ts m n (subst (λ z. IsFirstUnknown find z m) (plans_read_once text ss ts h k) a) b

  refusals_one : (a b : Nameable) (r s : Refused) → RefusesActions g text a r → RefusesActions g text b s → (a ≡ b) × (r ≡ s)
  refusals_one _ _ _ _ (long_plan h) (long_plan k) = (refl, refl)
  refusals_one _ _ _ s (long_plan h) (no_plan _ k e) = absurd (omega (arith, h, k))
  refusals_one _ _ _ _ (long_plan h) (unknown_step ss n k e x) = absurd (omega (arith, h, k))
  refusals_one _ _ r _ (no_plan _ h e) (long_plan k) = absurd (omega (arith, h, k))
  refusals_one _ _ r s (no_plan _ h e) (no_plan _ k f) = (refl, plans_refuse_once text r s e f)
  refusals_one _ _ r _ (no_plan _ h e) (unknown_step ss n k f x) = absurd (plans_never_both text ss r f e)
  refusals_one _ _ _ _ (unknown_step ss n h e x) (long_plan k) = absurd (omega (arith, h, k))
  refusals_one _ _ _ s (unknown_step ss n h e x) (no_plan _ k f) = absurd (plans_never_both text ss s e f)
  refusals_one _ _ _ _ (unknown_step ss n h e x) (unknown_step ts m k f y) = (ap (λ z. named_with g (step_names z)) (plans_read_once text ss ts e f), ap refusals.StepUnknown (same_number ss ts n m e f x y))

  never_both : (ss : List PlanStep) (ms : List ℕ) (a : Nameable) (r : Refused) → HasActions g text ss ms → RefusesActions g text a r → ⊥
  never_both ss ms _ _ h (long_plan k) = let s = h.short in omega (arith, s, k)
  never_both ss ms _ r h (no_plan _ k f) = plans_never_both text ss r h.reads f
  never_both ss ms _ _ h (unknown_step ts n k f x) = all_found_or_first_unknown find ts ms n (subst (λ z. map find z ≡ map Some ms) (plans_read_once text ss ts h.reads f) h.known) x

pub one_plan : PlansHaveOneList
one_plan g text = record { actions = same_actions g text; refusals = refusals_one g text; either = never_both g text }

pub some_plan : PlansAreDecided
some_plan g text = elim (cases_lt most_bytes (length text)) [
  | inl long ↦ inr (nothing, refusals.TooLong parts.Plan, long_plan long)
  | inr short ↦ elim (plans_always_one text) [
    | inr r ↦ inr (nothing, r.0, no_plan r.0 short r.1)
    | inl steps ↦ elim (steps_decided g.actions steps.0) [
      | inl ns ↦ inl (steps.0, ns.0, record { short = short; reads = steps.1; known = ns.1 })
      | inr n ↦ inr (named_with g (step_names steps.0), refusals.StepUnknown n.0, unknown_step steps.0 n.0 short steps.1 n.1)
    ]
  ]
]
