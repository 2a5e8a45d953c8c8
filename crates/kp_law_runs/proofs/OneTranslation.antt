-- A ground problem has one translation with a table, its plans one verdict, and one lift.
use Rattle.std.proofs.Common.{◌≡◌, ℕ, List, length, sym, ap, ◌∙◌}
use Rattle.kp_base.specs.declared.ground.Ground.{Ground}
use Rattle.kp_base.specs.declared.ground.Initial.{Initial}
use Rattle.kp_base.specs.declared.ground.TagTable.{TagTable}
use Rattle.kp_base.proofs.Cases.{some_alike}
use Rattle.kp_law_tagged_machine.specs.Lifts.{lift_of}
use Rattle.kp_law_tagged_machine.proofs.Public.{failing_lists_dont_lift, lists_fail_once, lifted_lists_strip}
use Rattle.kp_cover.proofs.Public.{uncovered_once}
use Rattle.kp_law_decidable.proofs.Public.{verdict_once}
use Rattle.kp_plans.specs.Printed.{plan_text}
use Rattle.kp_run_outcome.specs.declared.outcome.Outcome.{Outcome}
use Rattle.kp_words.specs.Asked.{Asked}
use Rattle.kp_run_inputs.specs.Actions.{ComesByPlan}
use Rattle.kp_run_inputs.proofs.Public.{by_task_one_outcome, by_plan_one_outcome}
use Rattle.kp_run_messages.specs.Lifting.{unlifted_text}
use Rattle.kp_run_outcome.specs.Printing.{prints, denies}
use Rattle.kp_run.specs.Translate.{translates, IsPut, TranslatesGround}
use Rattle.kp_run.specs.Lift.{LiftsActions, lifts, fails, LiftsPlan}
use Rattle.kp_run.specs.Check.{tells, TellsJudged, failing_step}

pub table_once : (c : Asked) (g : Ground) (i : Initial) (table : TagTable) (o u : Outcome) → TranslatesGround c g i table o → TranslatesGround c g i table u → o ≡ u
table_once c g i table o u h k = by_task_one_outcome g table (IsPut c g i table) (λ x y a b. a.outcome ∙ (ap (translates c g table) (uncovered_once g i table a.uncovered b.uncovered a.are b.are) ∙ sym b.outcome)) o u h k

-- ---- plans

pub verdicts_once : (g : Ground) (i : Initial) (ns : List ℕ) (o u : Outcome) → TellsJudged g i ns o → TellsJudged g i ns u → o ≡ u
verdicts_once g i ns o u a b = a.told ∙ (ap (tells g (length ns)) (verdict_once (length g.atoms) g i ns a.judged b.judged a.answers b.answers) ∙ sym b.told)

module _ (g : Ground) (table : TagTable) where
  lift_once : (ns : List ℕ) (o u : Outcome) → LiftsActions g table ns o → LiftsActions g table ns u → o ≡ u
  lift_once ns o u (lifts ss h e) (lifts ts k f) = e ∙ (ap (λ z. prints (plan_text z)) (some_alike ss ts (sym h.steps_are ∙ k.steps_are)) ∙ sym f)
  lift_once ns o u (lifts ss h e) (fails k l f is) = absurd (let no = failing_lists_dont_lift g table (lift_of g table ns) k l (rw (lifted_lists_strip g table ns) f) in let yes_ = h.accepted in cc)
  lift_once ns o u (fails k l f is) (lifts ss h e) = absurd (let no = failing_lists_dont_lift g table (lift_of g table ns) k l (rw (lifted_lists_strip g table ns) f) in let yes_ = h.accepted in cc)
  lift_once ns o u (fails k l f is) (fails j m h e) =
      let same = lists_fail_once g table ns k j l m f h in
      is ∙ (ap (λ z. denies (unlifted_text g.atoms (failing_step (length ns) z) l)) same.0 ∙ (ap (λ z. denies (unlifted_text g.atoms (failing_step (length ns) j) z)) same.1 ∙ sym e))

  pub lifts_once : (plan : List ℕ) (o u : Outcome) → LiftsPlan g plan table o → LiftsPlan g plan table u → o ≡ u
  lifts_once plan o u h k = by_task_one_outcome g table (ComesByPlan g plan (LiftsActions g table)) (by_plan_one_outcome g plan (LiftsActions g table) lift_once) o u h k
