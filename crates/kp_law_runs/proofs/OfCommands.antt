-- What a run of each command ends with, on files with which it goes on.
use Rattle.std.proofs.lemmas.Bool.{false≢true}
use Rattle.std.proofs.Common.{◌↔◌, ◌≡◌, ◌++◌, ℕ, true, List, [], Some, Vec, length, inl, inr, refl, sym, ap, ◌∙◌, subst}
use Rattle.std.specs.FinMap.{get}
use Rattle.std.specs.declared.alloc.Global.{Global}
use Rattle.kp_base.specs.declared.refused.Refused.TheVariants as refusals
use Rattle.kp_tree_grammar.specs.declared.tree.Word.{Word}
use Rattle.kp_tree_grammar.specs.Trees.{Domain, Problem}
use Rattle.kp_plans.specs.Printed.{plan_text}
use Rattle.kp_outside.specs.Outside.{FileMap}
use Rattle.kp_run_outcome.specs.declared.outcome.Outcome.{Outcome}
use Rattle.kp_run_outcome.specs.declared.status.Status.{Status}
use Rattle.kp_run_outcome.specs.declared.status.Status.TheVariants as status
use Rattle.kp_run_outcome.specs.Ends.{Outside, IsAnswer, AreHeld}
use Rattle.kp_run_outcome.specs.Printing.{prints}
use Rattle.kp_words.specs.Asked.{Asked, source_of}
use Rattle.kp_words.specs.declared.verb.Verb.TheVariants as verbs
use Rattle.kp_run_prepare.specs.Refusing.{refuses, named_in}
use Rattle.kp_run_prepare.specs.Prepared.{clash, by_trees, early, later}
use Rattle.kp_base.specs.declared.ground.Ground.{Ground}
use Rattle.kp_base.specs.declared.ground.Initial.{Initial}
use Rattle.kp_check.specs.declared.answer.Judged.{Judged}
use Rattle.kp_check.specs.declared.answer.Judged.TheVariants.{Yes, No}
use Rattle.kp_law_translation.specs.OfTrees.{ground_of, initial_of}
use Rattle.kp_run_inputs.specs.Tasks.{with_task}
use Rattle.kp_run_solve.proofs.Public.{machine_lines_read}
use Rattle.kp_run.specs.Translate.{TranslatesTexts, translates}
use Rattle.kp_run.specs.Strip.{strips}
use Rattle.kp_run.specs.Lift.{LiftsActions, lifts, fails}
use Rattle.kp_run.specs.Check.{tells}
use Rattle.kp_run.specs.Outcomes.{IsDue}
use Rattle.kp_run.specs.Ends.{Ends}
use Rattle.kp_run_messages.specs.Coverage.{coverage_text}
use Rattle.kp_tags_files.specs.Printed.{merges_of, merges_text}
use Rattle.kp_base.specs.declared.lit.Lit.{Lit}
use Rattle.kp_base.specs.declared.ground.TagTable.{TagTable}
use Rattle.kp_base.specs.Covering.{IsComplete, AreUncovered}
use Rattle.kp_law_decidable.specs.Laws.{AreProper}
use Rattle.kp_law_decidable.proofs.Public.{complete_with_none}
use Rattle.kp_cover.proofs.Public.{none_uncovered_if_complete}
use Rattle.kp_law_tagged_machine.specs.Lifts.{lift_of, UnliftedAt}
use Rattle.kp_law_tagged_machine.proofs.Public.{lifted_lists_strip, lists_lift_or_fail, failing_lists_dont_lift}
use Rattle.kp_base.proofs.Cases.{some_alike}
use Rattle.kp_plans.specs.PlanFiles.{step_names}
use Rattle.kp_law_translation.proofs.Public.{numbers_below_are_actions, lifted_steps_have_names, lifts_written, tables_can_be_written}
use Rattle.kp_base.specs.Machine.{MachineStep, accepts, stripped as actions_of}
use Rattle.kp_ktask_texts.specs.Report.{counts_of}
use Rattle.kp_plans.specs.declared.step.PlanStep.{PlanStep}
use Rattle.kp_words.specs.Command.{IsCall, file_of, if_named}
use Rattle.kp_run_inputs.specs.SourceTables.{by_mode, with_table}
use Rattle.kp_run_inputs.specs.Actions.{with_actions}
use Rattle.kp_run_inputs.proofs.Public.{found_numbers_are_actions, found_actions_are_named, as_many_found_as_steps, table_of_source_is_for_trees}
use Rattle.kp_run.specs.Completeness.{PrintsComplete}
use Rattle.kp_run.proofs.Public.{complete_text_leaves_none as none_told, complete_is_told, prepared_is_proper, due_by, held_alone, named_merges_held}
use Rattle.kp_run_prepare.proofs.Public.{problem_of_trees}
use Rattle.kp_run.specs.Solved.{GoesOn}
use Rattle.kp_law_runs.specs.Commands.{HasTranslation, TranslationsAreAnswered, CompleteIsTrue, MergesAreListed, ClashesAreAnswered, HasVerdict, ChecksAreAnswered, ChecksAreTrue, HasLift, LiftsAreAnswered, LiftsAreTrue, LiftedLinesStrip, StripsAreAnswered}
use Rattle.kp_law_runs.specs.Follows.{IsAnsweredBy}
use Rattle.kp_law_runs.proofs.Following.{answers_are_whole, ends_with}
use Rattle.kp_law_runs.proofs.OneOutcome.{one_outcome}
use Rattle.kp_law_runs.proofs.YesPlans.{yes_is_a_plan}
use Rattle.kp_law_runs.proofs.LiftedPlans.{lifted_plans}

-- what the files that a translation names come to
merges_due : (words : List (Vec ℕ Global)) (m : FileMap) (c : Asked) (domain problem : List ℕ) (merges : List (List ℕ)) (o : Outcome)
    → IsCall verbs.Translate words c → get m c.domain ≡ Some domain → get m c.problem ≡ Some problem → AreHeld (Some m) (if_named (file_of (source_of c))) merges → TranslatesTexts c domain problem merges o → IsDue words (Some m) o
merges_due words m c domain problem merges o is first second others comes =
    due_by verbs.Translate c (record { domain = domain; problem = problem; merges = merges; plan = []; written = [] }) o is
    (record { domain = held_alone m c.domain domain first; problem = held_alone m c.problem problem second; merges = named_merges_held (Some m) c merges others; plan = refl; written = refl }) comes

translation_due : (words : List (Vec ℕ Global)) (m : FileMap) (c : Asked) (d : Domain Word) (p : Problem Word) (table : TagTable) (ls : List Lit) → IsCall verbs.Translate words c → GoesOn m c.domain c.problem c.implicates d p → HasTranslation m (source_of c) d p table ls → IsDue words (Some m) (translates c (ground_of d p) table ls)
translation_due words m c d p table ls is g h =
    merges_due words m c g.domain g.problem h.merges (translates c (ground_of d p) table ls) is g.domain_held g.problem_held h.held
    (later d p g.trees g.prepared (with_table table h.has_table (with_task h.fits (record { uncovered = ls; are = h.are_uncovered; outcome = refl }))))

pub translations_are_answered : TranslationsAreAnswered
translations_are_answered words old new s ends m c d p table ls held is g h = ends_with words old new s ends m _ held (translation_due words m c d p table ls is g h)

-- the answer of a run is that of the outcome that is due
pub answered_by : (words : List (Vec ℕ Global)) (old new : Outside) (s : Status) → Ends words old new s → (m : FileMap) (o : Outcome) → old.held ≡ Some m → IsDue words (Some m) o → IsAnswer s → IsAnsweredBy o old new s
answered_by words old new s ends m o held due answer =
    let whole = answers_are_whole words old new s ends answer in
    let same = one_outcome words m whole.outcome o (subst (λ x. IsDue words x whole.outcome) held whole.due) due in
    subst (λ z. IsAnsweredBy z old new s) same whole.answered

proper_of : (m : FileMap) (domain problem : List ℕ) (limit : ℕ) (d : Domain Word) (p : Problem Word) → GoesOn m domain problem limit d p → AreProper (ground_of d p) (initial_of d p)
proper_of m domain problem limit d p g = prepared_is_proper limit d p g.trees.no_fault g.prepared

-- the last line of a translation is `complete` exactly where its table is complete
pub complete_text : (g : Ground) (i : Initial) (table : TagTable) (ls : List Lit) → AreProper g i → AreUncovered g i table ls → PrintsComplete (counts_of g table ++ coverage_text g.atoms ls) ↔ IsComplete g i table
complete_text g i table ls prepared_is_proper are = (
  λ printed. complete_with_none g i table prepared_is_proper (subst (AreUncovered g i table) (none_told (counts_of g table) g.atoms ls printed) are),
  λ whole. subst (λ z. PrintsComplete (counts_of g table ++ coverage_text g.atoms z)) (sym (none_uncovered_if_complete g i table ls are whole)) (complete_is_told g table),
)

pub complete_is_true : CompleteIsTrue
complete_is_true words old new s ends m c d p table ls held is g h answer =
    let a = answered_by words old new s ends m _ held (translation_due words m c d p table ls is g h) answer in
    ((translates c (ground_of d p) table ls).text, a.text_is, complete_text (ground_of d p) (initial_of d p) table ls (proper_of m c.domain c.problem c.implicates d p g) h.are_uncovered)

pub merges_are_listed : MergesAreListed
merges_are_listed words old new s ends m c d p table held is g h =
    let o = prints (merges_text (ground_of d p).atoms (merges_of table)) in
    ends_with words old new s ends m _ held (due_by verbs.Merges c (record { domain = g.domain; problem = g.problem; merges = []; plan = []; written = [] }) o is (record { domain = held_alone m c.domain g.domain g.domain_held; problem = held_alone m c.problem g.problem g.problem_held; merges = refl; plan = refl; written = refl })
    (later d p g.trees g.prepared (with_table table (by_mode c.mode table h) refl)))

pub clashes_are_answered : ClashesAreAnswered
clashes_are_answered words old new s ends m c domain problem merges d p at held is first second others trees started clashes =
    ends_with words old new s ends m _ held (merges_due words m c domain problem merges (refuses (named_in (ground_of d p)) (refusals.Clash at)) is first second others (early (by_trees d p (named_in (ground_of d p)) (refusals.Clash at) trees (clash at started clashes) refl)))

check_due : (words : List (Vec ℕ Global)) (m : FileMap) (c : Asked) (d : Domain Word) (p : Problem Word) (steps : List PlanStep) (j : Judged) → IsCall verbs.Check words c → GoesOn m c.domain c.problem c.implicates d p → (h : HasVerdict m c.plan d p steps j) → IsDue words (Some m) (tells (ground_of d p) (length steps) j)
check_due words m c d p steps j is g h =
    let o = tells (ground_of d p) (length steps) j in
    due_by verbs.Check c (record { domain = g.domain; problem = g.problem; merges = []; plan = h.text; written = [] }) o is (record { domain = held_alone m c.domain g.domain g.domain_held; problem = held_alone m c.problem g.problem g.problem_held; merges = refl; plan = held_alone m c.plan h.text h.held; written = refl })
    (later d p g.trees g.prepared (with_actions steps h.numbers h.has_actions
    (record { judged = j; answers = h.answers; told = ap (λ n. tells (ground_of d p) n j) (sym (as_many_found_as_steps (ground_of d p) steps h.numbers h.has_actions.known)) })))

pub checks_are_answered : ChecksAreAnswered
checks_are_answered words old new s ends m c d p steps j held is g h = ends_with words old new s ends m _ held (check_due words m c d p steps j is g h)

-- a verdict is Done exactly where it is yes
done_yes : (g : Ground) (steps : ℕ) (j : Judged) → (tells g steps j).status ≡ status.Done → j ≡ Yes
done_yes g steps Yes e = refl
done_yes g steps (No ps k l) e = absurd cc

yes_done : (g : Ground) (steps : ℕ) (j : Judged) → j ≡ Yes → (tells g steps j).status ≡ status.Done
yes_done g steps j is = ap (λ v. (tells g steps v).status) is

pub checks_are_true : ChecksAreTrue
checks_are_true words old new s ends m c d p steps j held is g h answer =
    let a = answered_by words old new s ends m _ held (check_due words m c d p steps j is g h) answer in
    let plan = yes_is_a_plan g.domain g.problem (problem_of_trees g.domain g.problem d p g.trees) g.prepared.started.initial steps h.numbers j h.has_actions.known h.answers in
    ((λ d_is. plan.0 (done_yes (ground_of d p) (length steps) j (sym a.status_is ∙ d_is))), (λ is_plan. a.status_is ∙ yes_done (ground_of d p) (length steps) j (plan.1 is_plan)))

-- ---- lifts

lift_due : (words : List (Vec ℕ Global)) (m : FileMap) (c : Asked) (d : Domain Word) (p : Problem Word) (table : TagTable) (ns : List ℕ) (o : Outcome) → IsCall verbs.Lift words c → GoesOn m c.domain c.problem c.implicates d p → HasLift m (source_of c) c.plan d p table ns → LiftsActions (ground_of d p) table ns o → IsDue words (Some m) o
lift_due words m c d p table ns o is g h does =
    due_by verbs.Lift c (record { domain = g.domain; problem = g.problem; merges = h.merges; plan = h.text; written = [] }) o is (record { domain = held_alone m c.domain g.domain g.domain_held; problem = held_alone m c.problem g.problem g.problem_held; merges = named_merges_held (Some m) c h.merges h.merges_held; plan = held_alone m c.plan h.text h.plan_held; written = refl })
    (later d p g.trees g.prepared (with_table table h.has_table (with_task h.fits (with_actions h.steps ns h.has_actions does))))

pub lifts_are_answered : LiftsAreAnswered
lifts_are_answered words old new s ends m c d p table ns o held is g h does = ends_with words old new s ends m o held (lift_due words m c d p table ns o is g h does)

-- where such a run ends with an answer, it is Done exactly where some list of steps is accepted that strips to the actions
accepted_true : (words : List (Vec ℕ Global)) (old new : Outside) (s : Status) → Ends words old new s → (m : FileMap) (c : Asked) (d : Domain Word) (p : Problem Word) (table : TagTable) (ns : List ℕ)
    → old.held ≡ Some m → IsCall verbs.Lift words c → GoesOn m c.domain c.problem c.implicates d p → HasLift m (source_of c) c.plan d p table ns → IsAnswer s
    → (s ≡ status.Done) ↔ ((ms : List MachineStep) × (accepts (ground_of d p) table ms ≡ true) × (actions_of ms ≡ ns))
accepted_true words old new s ends m c d p table ns held is g h answer =
    let g' = ground_of d p in
    let inside = found_numbers_are_actions g' h.steps ns h.has_actions.known in
    elim (lists_lift_or_fail g' table ns (numbers_below_are_actions g' ns inside)) [
      | inl accepted ↦
          let named = lifted_steps_have_names g' table ns inside in
          let does = lifts named.0 (record { steps_are = named.1; accepted = accepted }) refl in
          let a = answered_by words old new s ends m _ held (lift_due words m c d p table ns _ is g h does) answer in
          ((λ e. (lift_of g' table ns, accepted, lifted_lists_strip g' table ns)), (λ e. a.status_is))
      | inr f ↦
          let does = fails f.0 f.1 f.2 refl in
          let a = answered_by words old new s ends m _ held (lift_due words m c d p table ns _ is g h does) answer in
          ((λ e. absurd (let not_done = sym a.status_is ∙ e in cc)), (λ w. absurd (false≢true (sym (failing_lists_dont_lift g' table w.0 f.0 f.1 (subst (λ z. UnliftedAt g' table z f.0 f.1) (sym w.2) f.2)) ∙ w.1))))
    ]

pub lifts_are_true : LiftsAreTrue
lifts_are_true words old new s ends m c d p table ns held is g h answer =
    let for = table_of_source_is_for_trees d p (source_of c) h.merges table g.prepared.started.small h.fits h.has_table in
    let plans = lifted_plans g.domain g.problem (problem_of_trees g.domain g.problem d p g.trees) table for h.steps ns h.has_actions.known in
    let lists = accepted_true words old new s ends m c d p table ns held is g h answer in
    ((λ e. plans.0 (lists.0 e)), (λ w. lists.1 (plans.1 w)))

pub lifted_lines_strip : LiftedLinesStrip
lifted_lines_strip words old new s ends m c d p table ns held is g h is_done =
    let g' = ground_of d p in
    let inside = found_numbers_are_actions g' h.steps ns h.has_actions.known in
    elim (lists_lift_or_fail g' table ns (numbers_below_are_actions g' ns inside)) [
      | inl accepted ↦
          let named = lifted_steps_have_names g' table ns inside in
          let a = answered_by words old new s ends m _ held (lift_due words m c d p table ns _ is g h (lifts named.0 (record { steps_are = named.1; accepted = accepted }) refl)) (subst IsAnswer (sym is_done) tt) in
          let for = table_of_source_is_for_trees d p (source_of c) h.merges table g.prepared.started.small h.fits h.has_table in
          let x = problem_of_trees g.domain g.problem d p g.trees in
          let r = lifts_written g.domain g.problem x table for ns named.0 (record { steps_are = named.1; accepted = accepted }) in
          record {
            written = named.0;
            is_plan = r.is_plan;
            strips = r.strips ∙ ap Some (some_alike r.names (step_names h.steps) (sym r.are_names ∙ found_actions_are_named g' h.steps ns h.has_actions.known));
            told = a.text_is;
            told_reads = machine_lines_read g' table (tables_can_be_written g.domain g.problem x table for) (lift_of g' table ns) named.0 named.1;
          }
      | inr f ↦
          let a = answered_by words old new s ends m _ held (lift_due words m c d p table ns _ is g h (fails f.0 f.1 f.2 refl)) (subst IsAnswer (sym is_done) tt) in
          absurd (let not_done = sym a.status_is ∙ is_done in cc)
    ]

pub strips_are_answered : StripsAreAnswered
strips_are_answered words old new s ends m c text steps actions held is first short plan stripped_to =
    ends_with words old new s ends m _ held (due_by verbs.Strip c (record { domain = []; problem = []; merges = []; plan = []; written = text }) (prints (plan_text actions)) is (record { domain = refl; problem = refl; merges = refl; plan = refl; written = held_alone m c.written text first }) (strips steps actions short plan stripped_to refl))
