-- Where a translation told `complete`, each plan of its files lifts.
use Rattle.std.proofs.Common.{◌≡◌, ◌∙◌, ◌++◌, ℕ, List, [], ◌∷◌, Some, Vec, map, inl, inr, refl, sym, ap, subst}
use Rattle.std.proofs.lemmas.Bool.{false≢true}
use Rattle.std.proofs.lemmas.Option.{same_Some}
use Rattle.std.specs.FinMap.{get}
use Rattle.std.specs.declared.alloc.Global.{Global}
use Rattle.kp_base.specs.declared.ground.Ground.{Ground}
use Rattle.kp_base.specs.declared.ground.Initial.{Initial}
use Rattle.kp_base.specs.declared.ground.TagTable.{TagTable}
use Rattle.kp_base.specs.Implicates.{IsOfItsAtoms}
use Rattle.kp_base.specs.Covering.{IsComplete, AreUncovered}
use Rattle.kp_base.proofs.Cases.{some_alike}
use Rattle.kp_law_tagged_machine.specs.Lifts.{lift_of, UnliftedAt}
use Rattle.kp_law_tagged_machine.proofs.Public.{lifted_lists_strip, failing_lists_dont_lift}
use Rattle.kp_tree_grammar.specs.declared.tree.Word.{Word}
use Rattle.kp_tree_grammar.specs.Trees.{Domain, Problem}
use Rattle.kp_names_semantics.specs.Problems.{numbered_problem, Step, HasProblem}
use Rattle.kp_names_semantics.specs.Plans.{IsPlan}
use Rattle.kp_law_decidable.specs.Laws.{AreProper}
use Rattle.kp_law_decidable.proofs.Public.{formulas_are_ascending, complete_with_none}
use Rattle.kp_plans.specs.Printed.{plan_text}
use Rattle.kp_law_ktask.specs.Task.{task_of}
use Rattle.kp_law_ktask.specs.Accepted.{step_at}
use Rattle.kp_ktask_texts.specs.Report.{counts_of}
use Rattle.kp_law_translation.specs.OfTrees.{ground_of, initial_of}
use Rattle.kp_law_translation.specs.Tables.{IsTableFor}
use Rattle.kp_law_translation.specs.Written.{translation_of}
use Rattle.kp_law_translation.proofs.Public.{formulas_speak_of_ground_atoms, initial_states_are_models, tables_can_be_written, lifts_written, plans_lift}
use Rattle.kp_law_translation.specs.Laws.{IsWrittenLift, Lifts}
use Rattle.kp_outside.specs.Outside.{FileMap, with_bytes}
use Rattle.kp_run_outcome.specs.declared.outcome.Outcome.{Outcome}
use Rattle.kp_run_outcome.specs.declared.status.Status.{Status}
use Rattle.kp_run_outcome.specs.declared.status.Status.TheVariants as status
use Rattle.kp_run_outcome.specs.Ends.{Outside, with_files, CarriesOut, whole, put_failed, put_no_memory, print_failed, print_no_memory}
use Rattle.kp_run_outcome.specs.Printing.{prints}
use Rattle.kp_words.specs.Asked.{Source, Asked, source_of}
use Rattle.kp_words.specs.declared.verb.Verb.TheVariants as verbs
use Rattle.kp_words.specs.Command.{IsCall, file_of, if_named}
use Rattle.kp_words.proofs.Public.{translate_outputs_differ}
use Rattle.kp_run_messages.specs.Coverage.{coverage_text}
use Rattle.kp_run_prepare.specs.Prepared.{usual}
use Rattle.kp_run_prepare.proofs.Public.{usual_ground_is_of_its_atoms, goes_on_with_these, prepared_under_a_greater_limit, problem_of_trees}
use Rattle.kp_run_inputs.specs.SourceTables.{HasTable, by_mode, by_file, no_table, with_table}
use Rattle.kp_run_inputs.specs.Actions.{HasActions, no_actions, with_actions}
use Rattle.kp_run_inputs.proofs.Public.{sources_have_one_table, plans_have_one_list, named_is_found_at}
use Rattle.kp_ktask.proofs.Public.{task_refused_or_within}
use Rattle.kp_run_inputs.specs.Tasks.{no_task, with_task}
use Rattle.kp_run_solve.proofs.Public.{machine_lines_read as steps_read}
use Rattle.kp_run.specs.Lift.{LiftsActions, lifts, fails, LiftsPlan, LiftsTrees, LiftsTexts}
use Rattle.kp_run.specs.Outcomes.{IsDue}
use Rattle.kp_run.specs.Ends.{Ends, came, read_failed, no_memory}
use Rattle.kp_run.specs.Completeness as complete
use Rattle.kp_run.specs.Completeness.{PrintsComplete, RanComplete, AreSameSource, one_mode, one_text, IsOfTheSame, HoldsPlan, LosesNoPlan, StaysSolvable}
use Rattle.kp_run.proofs.CompleteText.{none_uncovered}
use Rattle.kp_run.proofs.Reading.{content_held, merges_held}
use Rattle.kp_run.proofs.Comes.{due_makes}
use Rattle.kp_run.proofs.Soundness.{IsDone, AreBoth, both_held, all_done, is_table, first_put, second_put}

-- ---- the translation

-- what a translation that ran and ended with Done came to
record DidTranslate (t : Asked) (before after : FileMap) (text : List ℕ) : Type 0 where
  outcome : Outcome
  apart : (t.domain_out ≡ t.problem_out) → ⊥
  both : AreBoth before t outcome
  done : outcome.status ≡ status.Done
  puts : Some after ≡ with_files (Some before) outcome.puts
  told : text ≡ outcome.text

after_front : (front xs ys : List ℕ) → front ++ xs ≡ front ++ ys → xs ≡ ys
after_front [] xs ys e = e
after_front (z ∷ front) xs ys e = let rest : front ++ xs ≡ front ++ ys = cc in after_front front xs ys rest

did_translate : (words : List (Vec ℕ Global)) (t : Asked) (before after : FileMap) (r : RanComplete Ends words t before after) → DidTranslate t before after r.text
did_translate words t before after r = by r.ended
  where
    of_due : (o : Outcome) → IsDue words (Some before) o → o.status ≡ status.Done → Some after ≡ with_files (Some before) o.puts → r.text ≡ o.text → DidTranslate t before after r.text
    of_due o due done puts told = record {
      outcome = o;
      apart = translate_outputs_differ _ t r.is_translate.is_command.are_words r.is_translate.of_verb;
      both = both_held words before t o r.is_translate due;
      done = done;
      puts = puts;
      told = told;
    }

    by : Ends words r.old r.new status.Done → DidTranslate t before after r.text
    by (came o due (whole same none held told)) =
        of_due o (subst (λ m. IsDue words m o) r.held_before due) (sym same)
        (sym r.held_after ∙ (held ∙ ap (λ m. with_files m o.puts) r.held_before))
        (after_front r.earlier r.text o.text (let e = sym r.told_after ∙ (told ∙ ap (λ m. with_bytes m o.text) r.told_before) in cc))
    by (came o due (put_failed f e a b g h i)) = absurd cc
    by (came o due (put_no_memory f e a b g)) = absurd cc
    by (came o due (print_failed e a b g h i has_text)) = absurd cc
    by (came o due (print_no_memory e a b g has_text)) = absurd cc
    by (read_failed (d, e, a) k b g h) = absurd cc
    by (no_memory e a b) = absurd cc

-- ---- the source of a lift

-- one source read the same texts of merges before and now
one_source : (g : Ground) (i : Initial) (before now : FileMap) (a b : Source) (merges : List (List ℕ)) (table : TagTable) → AreSameSource before now a b → HasTable g i a merges table → HasTable g i b merges table
one_source g i before now _ _ _ _ (one_mode mode) (by_mode _ table made) = by_mode mode table made
one_source g i before now _ _ _ _ (one_text name other same) (by_file _ text ms table short reads accepts) = by_file other text ms table short reads accepts

-- and what it names holds the same
source_now : (before now : FileMap) (a b : Source) → AreSameSource before now a b → map (get before) (if_named (file_of a)) ≡ map (get now) (if_named (file_of b))
source_now before now _ _ (one_mode mode) = refl
source_now before now _ _ (one_text name other same) = ap (λ z. z ∷ []) same

-- ---- its plans

module _ (t : Asked) (before after : FileMap) (text : List ℕ) (x : DidTranslate t before after text) (told_complete : PrintsComplete text) where
  abbrev y : IsDone t x.both.domain x.both.problem x.both.merges x.outcome
  y = all_done before after t x.outcome x.apart x.both x.done x.puts

  abbrev d : Domain Word
  d = y.first

  abbrev p : Problem Word
  p = y.second

  abbrev g : Ground
  g = ground_of d p

  abbrev i : Initial
  i = initial_of d p

  abbrev has : HasProblem x.both.domain x.both.problem
  has = problem_of_trees x.both.domain x.both.problem d p y.trees

  table_is : IsTableFor d p y.table
  table_is = is_table before after t x.outcome x.apart x.both x.done x.puts

  own : IsOfItsAtoms g
  own = usual_ground_is_of_its_atoms (numbered_problem d p) g y.prepared.started.small

  proper : AreProper g i
  proper = record { own_atoms = own; over = formulas_speak_of_ground_atoms d p; ascending = formulas_are_ascending (numbered_problem d p); model = (initial_states_are_models d p y.trees.no_fault).0 y.prepared.started.initial }

  -- the table is complete
  is_complete : IsComplete g i y.table
  is_complete =
      let text_is : text ≡ counts_of g y.table ++ coverage_text g.atoms y.ground.uncovered = x.told ∙ ap (λ (z : Outcome). z.text) y.ground.outcome in
      complete_with_none g i y.table proper (subst (AreUncovered g i y.table) (none_uncovered (counts_of g y.table) g.atoms y.ground.uncovered (subst PrintsComplete text_is told_complete)) y.ground.are_uncovered)

  module _ (plan : List Step) (is_plan : IsPlan x.both.domain x.both.problem plan) where
    -- the plan lifts, and so to a plan of what was put
    plan_lifts : Lifts d p y.table plan
    plan_lifts = plans_lift x.both.domain x.both.problem has y.table y.prepared.started.initial own table_is is_complete plan is_plan

    written : IsWrittenLift d p y.table plan_lifts.numbers plan_lifts.steps
    written = lifts_written x.both.domain x.both.problem has y.table table_is plan_lifts.numbers plan_lifts.steps plan_lifts.accepted

    is_written : complete.IsWrittenFor t after plan plan_lifts.steps
    is_written = record {
      domain_out = (translation_of d p y.table).domain;
      problem_out = (translation_of d p y.table).problem;
      domain_put = first_put before after t x.outcome x.apart x.both x.done x.puts;
      problem_put = second_put before after t x.outcome x.apart x.both x.done x.puts;
      is_plan = written.is_plan;
      strips = written.strips ∙ ap Some (some_alike written.names plan (sym written.are_names ∙ plan_lifts.are_names));
    }

  -- ---- the lift

  module _ (c : Asked) (now : FileMap) (same : IsOfTheSame t before c now) (plan : List Step) (holds : HoldsPlan now c plan) where
    -- what the lift's names hold
    domain_now : get now c.domain ≡ Some x.both.domain
    domain_now = sym same.domain ∙ x.both.domain_held

    problem_now : get now c.problem ≡ Some x.both.problem
    problem_now = sym same.problem ∙ x.both.problem_held

    merges_now : map (get now) (if_named (file_of (source_of c))) ≡ map Some x.both.merges
    merges_now = sym (source_now before now (source_of t) (source_of c) same.source) ∙ x.both.merges_held

    same_domain : holds.domain ≡ x.both.domain
    same_domain = same_Some holds.domain x.both.domain (sym holds.domain_held ∙ domain_now)

    same_problem : holds.problem ≡ x.both.problem
    same_problem = same_Some holds.problem x.both.problem (sym holds.problem_held ∙ problem_now)

    its_plan : IsPlan x.both.domain x.both.problem plan
    its_plan = subst (λ z. IsPlan x.both.domain z plan) same_problem (subst (λ z. IsPlan z holds.problem plan) same_domain holds.is_plan)

    abbrev lift : Lifts d p y.table plan
    lift = plan_lifts plan its_plan

    actions : HasActions g holds.text holds.steps lift.numbers
    actions = record { short = holds.short; reads = holds.reads; known = named_is_found_at d p y.trees.no_fault holds.steps lift.numbers (lift.are_names ∙ ap (map Some) (sym holds.names_are)) }

    abbrev prints_it : Outcome
    prints_it = prints (plan_text lift.steps)

    of_lift : (ns : List ℕ) (o : Outcome) → ns ≡ lift.numbers → LiftsActions g y.table ns o → o ≡ prints_it
    of_lift ns o e (lifts steps k is) = is ∙ ap (λ z. prints (plan_text z)) (some_alike steps lift.steps (sym (subst (λ (z : List ℕ). map (step_at g y.table) (lift_of g y.table z) ≡ map Some steps) e k.steps_are) ∙ lift.accepted.steps_are))
    of_lift ns o e (fails k l f is) =
        absurd (false≢true (sym (failing_lists_dont_lift g y.table (lift_of g y.table lift.numbers) k l (subst (λ z. UnliftedAt g y.table z k l) (e ∙ sym (lifted_lists_strip g y.table lift.numbers)) f)) ∙ lift.accepted.accepted))

    of_plan : (o : Outcome) → LiftsPlan g holds.text y.table o → o ≡ prints_it
    of_plan o (no_task r a e) = absurd (task_refused_or_within (task_of g y.table) usual r a y.ground.fits)
    of_plan o (with_task fits (no_actions named r why e)) = absurd ((plans_have_one_list g holds.text).either holds.steps lift.numbers named r actions why)
    of_plan o (with_task fits (with_actions ss ns k h)) = of_lift ns o ((plans_have_one_list g holds.text).actions ss holds.steps ns lift.numbers k actions) h

    abbrev has_table : HasTable g i (source_of c) x.both.merges y.table
    has_table = one_source g i before now (source_of t) (source_of c) x.both.merges y.table same.source y.has_table

    of_trees : (o : Outcome) → LiftsTrees c x.both.merges holds.text d p o → o ≡ prints_it
    of_trees o (no_table names r why e) = absurd ((sources_have_one_table g i (source_of c) x.both.merges).either y.table names r has_table why)
    of_trees o (with_table v k h) = of_plan o (subst (λ z. LiftsPlan g holds.text z o) ((sources_have_one_table g i (source_of c) x.both.merges).tables v y.table k has_table) h)

    of_texts : (o : Outcome) → LiftsTexts c x.both.domain x.both.problem x.both.merges holds.text o → o ≡ prints_it
    of_texts o h = of_trees o (goes_on_with_these c.implicates x.both.domain x.both.problem (LiftsTrees c x.both.merges holds.text) d p o y.trees (prepared_under_a_greater_limit t.implicates c.implicates d p same.implicates y.prepared) h)

    lifted_to : (old new : Outside) (s : Status) → s ≡ status.Done → new.told ≡ with_bytes old.told (plan_text lift.steps) → complete.IsLiftedTo t after plan old new s
    lifted_to old new s is told = record {
      written = lift.steps;
      is_written = is_written plan its_plan;
      status_is = is;
      told = told;
      told_reads = steps_read g y.table (tables_can_be_written x.both.domain x.both.problem has y.table table_is) (lift_of g y.table lift.numbers) lift.steps lift.accepted.steps_are;
    }

    of_due : (words : List (Vec ℕ Global)) (o : Outcome) → IsCall verbs.Lift words c → IsDue words (Some now) o → o ≡ prints_it
    of_due words o is due =
        let it = due_makes words (Some now) verbs.Lift c o is due in
        let its = it.contents in
        let first_held : get now c.domain ≡ Some its.domain = content_held now c.domain its.domain it.are.domain in
        let second_held : get now c.problem ≡ Some its.problem = content_held now c.problem its.problem it.are.problem in
        let others_held : map (get now) (if_named (file_of (source_of c))) ≡ map Some its.merges = merges_held (Some now) c its.merges it.are.merges in
        let plan_is_held : get now c.plan ≡ Some its.plan = content_held now c.plan its.plan it.are.plan in
        let first = same_Some its.domain x.both.domain (sym first_held ∙ domain_now) in
        let second = same_Some its.problem x.both.problem (sym second_held ∙ problem_now) in
        let others = some_alike its.merges x.both.merges (sym others_held ∙ merges_now) in
        let last = same_Some its.plan holds.text (sym plan_is_held ∙ holds.plan_held) in
        of_texts o (subst (λ z. LiftsTexts c x.both.domain x.both.problem x.both.merges z o) last (subst (λ z. LiftsTexts c x.both.domain x.both.problem z its.plan o) others (subst (λ z. LiftsTexts c x.both.domain z its.merges its.plan o) second (subst (λ z. LiftsTexts c z its.problem its.merges its.plan o) first it.makes))))

    ends_lifted : (words : List (Vec ℕ Global)) (old new : Outside) (s : Status) → Ends words old new s → IsCall verbs.Lift words c → old.held ≡ Some now → complete.EndsLifted t after plan old new s
    ends_lifted words old new s (came o due carried) is held = by carried
      where
        it : o ≡ prints_it
        it = of_due words o is (subst (λ m. IsDue words m o) held due)

        by : CarriesOut o old new s → complete.EndsLifted t after plan old new s
        by (whole same_status none puts told) = inl (lifted_to old new s (same_status ∙ ap (λ (z : Outcome). z.status) it) (told ∙ ap (λ (z : Outcome). with_bytes old.told z.text) it))
        by (put_failed f e a b h j k) = inr (inr (inr e))
        by (put_no_memory f e a b h) = inr (inl e)
        by (print_failed e a b h j k has_text) = inr (inr (inr e))
        by (print_no_memory e a b h has_text) = inr (inl e)
    ends_lifted words old new s (read_failed (e, so, a) is_fault b h j) is held = inr (inr (inl is_fault))
    ends_lifted words old new s (no_memory e a b) is held = inr (inl e)

pub loses_none : (words : List (Vec ℕ Global)) (old new : Outside) (s : Status) → Ends words old new s → (c : Asked) → IsCall verbs.Lift words c → LosesNoPlan Ends c old new s
loses_none words old new s ends c is t_words t before after now plan r held same holds =
    ends_lifted t before after r.text (did_translate t_words t before after r) r.complete c now same plan holds words old new s ends is held

-- and without a lift
pub solvable : StaysSolvable Ends
solvable words t before after domain problem plan r domain_held problem_held is =
    let x = did_translate words t before after r in
    let one : domain ≡ x.both.domain = same_Some domain x.both.domain (sym domain_held ∙ x.both.domain_held) in
    let two : problem ≡ x.both.problem = same_Some problem x.both.problem (sym problem_held ∙ x.both.problem_held) in
    let own = subst (λ z. IsPlan x.both.domain z plan) two (subst (λ z. IsPlan z problem plan) one is) in
    ((plan_lifts t before after r.text x r.complete plan own).steps, is_written t before after r.text x r.complete plan own)
