-- What a command comes to that goes on with a table, with its task, or with the actions of a plan: one outcome, and some.
use Rattle.std.proofs.Common.{◌≡◌, ◌⊎◌, ℕ, List, length, refl, sym, ap, ap₂, subst, ◌∙◌, inl, inr}
use Rattle.std.proofs.lemmas.Bool.{cases_lt}
use Rattle.kp_base.specs.declared.ground.Ground.{Ground}
use Rattle.kp_base.specs.declared.ground.Initial.{Initial}
use Rattle.kp_base.specs.declared.ground.TagTable.{TagTable}
use Rattle.kp_base.specs.declared.refused.Refused.{Refused}
use Rattle.kp_base.specs.declared.refused.Refused.TheVariants as refusals
use Rattle.kp_classic.specs.declared.task.Task.{Task}
use Rattle.kp_law_ktask.specs.Task.{task_of}
use Rattle.kp_law_ktask.specs.Weight.{weight_of}
use Rattle.kp_ktask.specs.Translated.{FitsLimits, RefusesTask, facts_over, weight_over}
use Rattle.kp_ktask.proofs.Public.{task_refused_once, task_refused_or_within}
use Rattle.kp_plans.specs.declared.step.PlanStep.{PlanStep}
use Rattle.kp_law_decidable.specs.Laws.{AreProper}
use Rattle.kp_run_messages.specs.Refusals.{Nameable, nothing}
use Rattle.kp_run_outcome.specs.declared.outcome.Outcome.{Outcome}
use Rattle.kp_words.specs.Asked.{Source}
use Rattle.kp_words.specs.Command.{file_of, if_named}
use Rattle.kp_run_prepare.specs.Refusing.{refuses}
use Rattle.kp_run_prepare.specs.Prepared.{usual}
use Rattle.kp_run_inputs.specs.SourceTables.{HasTable, ComesByTable, no_table, with_table}
use Rattle.kp_run_inputs.specs.Tasks.{ComesByTask, no_task, with_task}
use Rattle.kp_run_inputs.specs.Actions.{HasActions, ComesByPlan, no_actions, with_actions}
use Rattle.kp_run_inputs.proofs.OneTable.{one_table}
use Rattle.kp_run_inputs.proofs.SomeTable.{some_table}
use Rattle.kp_run_inputs.proofs.OnePlan.{one_plan, some_plan}

-- one refusal is one outcome
refused_alike : (a b : Nameable) (r s : Refused) (o u : Outcome) → (a ≡ b) × (r ≡ s) → o ≡ refuses a r → u ≡ refuses b s → o ≡ u
refused_alike a b r s o u same e f = e ∙ (ap₂ refuses same.0 same.1 ∙ sym f)

-- ---- with a table

module _ (g : Ground) (i : Initial) (source : Source) (merges : List (List ℕ)) (P : TagTable → Outcome → Type 0) where
  pub by_table_once : ((t : TagTable) (o u : Outcome) → P t o → P t u → o ≡ u) → (o u : Outcome) → ComesByTable g i source merges P o → ComesByTable g i source merges P u → o ≡ u
  by_table_once one o u (no_table a r h e) (no_table b s k f) = refused_alike a b r s o u ((one_table g i source merges).refusals a b r s h k) e f
  by_table_once one o u (no_table a r h e) (with_table t k p) = absurd ((one_table g i source merges).either t a r k h)
  by_table_once one o u (with_table t h p) (no_table a r k e) = absurd ((one_table g i source merges).either t a r h k)
  by_table_once one o u (with_table t h p) (with_table v k q) = one v o u (subst (λ z. P z o) ((one_table g i source merges).tables t v h k) p) q

  pub by_table_some : AreProper g i → length merges ≡ length (if_named (file_of source)) → ((t : TagTable) → HasTable g i source merges t → (o : Outcome) × P t o) → (o : Outcome) × ComesByTable g i source merges P o
  by_table_some proper many some = elim (some_table g i source merges proper many) [
    | inl t ↦ let o = some t.0 t.1 in (o.0, with_table t.0 t.1 o.1)
    | inr r ↦ (refuses r.0 r.1, no_table r.0 r.1 r.2 refl)
  ]

-- ---- with its task

-- a task within the limits, or a refusal
fits_or_refused : (t : Task) → FitsLimits t usual ⊎ ((r : Refused) × RefusesTask t usual r)
fits_or_refused t = elim (cases_lt 262144 (length t.facts)) [
  | inl more ↦ inr (refusals.FactsOver, facts_over more)
  | inr few ↦ elim (cases_lt 16000000 (weight_of t)) [
    | inl heavy ↦ inr (refusals.WeightOver, weight_over few heavy)
    | inr light ↦ inl (record { facts = few; weight = light })
  ]
]

module _ (g : Ground) (table : TagTable) (P : Outcome → Type 0) where
  pub by_task_once : ((o u : Outcome) → P o → P u → o ≡ u) → (o u : Outcome) → ComesByTask g table P o → ComesByTask g table P u → o ≡ u
  by_task_once one o u (no_task r a e) (no_task s b f) = e ∙ (ap (refuses nothing) (task_refused_once (task_of g table) usual r s a b) ∙ sym f)
  by_task_once one o u (no_task r a e) (with_task b k) = absurd (task_refused_or_within (task_of g table) usual r a b)
  by_task_once one o u (with_task a h) (no_task s b f) = absurd (task_refused_or_within (task_of g table) usual s b a)
  by_task_once one o u (with_task a h) (with_task b k) = one o u h k

  pub by_task_some : (FitsLimits (task_of g table) usual → (o : Outcome) × P o) → (o : Outcome) × ComesByTask g table P o
  by_task_some some = elim (fits_or_refused (task_of g table)) [
    | inl fits ↦ let o = some fits in (o.0, with_task fits o.1)
    | inr r ↦ (refuses nothing r.0, no_task r.0 r.1 refl)
  ]

  -- what holds of that of which another goes on
  pub by_task_so : (Q : Outcome → Type 0) (o : Outcome) → (P o → Q o) → ComesByTask g table P o → ComesByTask g table Q o
  by_task_so Q o so (no_task r a e) = no_task r a e
  by_task_so Q o so (with_task fits h) = with_task fits (so h)

-- ---- with the actions of a plan

module _ (g : Ground) (text : List ℕ) (P : List ℕ → Outcome → Type 0) where
  pub by_plan_once : ((ns : List ℕ) (o u : Outcome) → P ns o → P ns u → o ≡ u) → (o u : Outcome) → ComesByPlan g text P o → ComesByPlan g text P u → o ≡ u
  by_plan_once one o u (no_actions a r h e) (no_actions b s k f) = refused_alike a b r s o u ((one_plan g text).refusals a b r s h k) e f
  by_plan_once one o u (no_actions a r h e) (with_actions ss ns k p) = absurd ((one_plan g text).either ss ns a r k h)
  by_plan_once one o u (with_actions ss ns h p) (no_actions a r k e) = absurd ((one_plan g text).either ss ns a r h k)
  by_plan_once one o u (with_actions ss ms h p) (with_actions ts ns k q) = one ns o u (subst (λ z. P z o) ((one_plan g text).actions ss ts ms ns h k) p) q

  pub by_plan_some : ((ss : List PlanStep) (ns : List ℕ) → HasActions g text ss ns → (o : Outcome) × P ns o) → (o : Outcome) × ComesByPlan g text P o
  by_plan_some some = elim (some_plan g text) [
    | inl h ↦ let o = some h.0 h.1 h.2 in (o.0, with_actions h.0 h.1 h.2 o.1)
    | inr r ↦ (refuses r.0 r.1, no_actions r.0 r.1 r.2 refl)
  ]
