-- In the modes that cover each target `complete` is told, so that nothing is lost.
use Rattle.std.proofs.Common.{◌≡◌, ◌∙◌, ℕ, List, sym, subst}
use Rattle.kp_base.specs.declared.ground.TagTable.{TagTable}
use Rattle.kp_base.specs.declared.limits.Mode.{Mode}
use Rattle.kp_tree_grammar.specs.declared.tree.Word.{Word}
use Rattle.kp_tree_grammar.specs.Trees.{Domain, Problem}
use Rattle.kp_law_decidable.specs.Laws.{AreProper}
use Rattle.kp_tags_modes.specs.Modes.{CoversEach}
use Rattle.kp_law_translation.specs.OfTrees.{ground_of, initial_of}
use Rattle.kp_run_outcome.specs.declared.outcome.Outcome.{Outcome}
use Rattle.kp_run_outcome.specs.declared.status.Status.TheVariants as status
use Rattle.kp_run_outcome.specs.Ends.{IsAnswer}
use Rattle.kp_run_messages.specs.Refusals.{nothing}
use Rattle.kp_words.specs.Asked.{of_mode, Asked, source_of}
use Rattle.kp_words.specs.declared.verb.Verb.TheVariants as verbs
use Rattle.kp_run_prepare.specs.Prepared.{by_texts, by_trees, early, later}
use Rattle.kp_run_inputs.specs.SourceTables.{HasTable, no_table, with_table}
use Rattle.kp_run_inputs.proofs.Public.{some_tables_are_complete}
use Rattle.kp_run_inputs.specs.Tasks.{no_task, with_task}
use Rattle.kp_run.specs.Translate.{TranslatesGround, TranslatesTexts}
use Rattle.kp_run.specs.Completeness.{PrintsComplete}
use Rattle.kp_run.specs.Solved.{its_ground, its_formula}
use Rattle.kp_run.proofs.Public.{due_makes, IsNoRefusal, not_refused, prepared_is_proper, solve_is_true}
use Rattle.kp_law_runs.specs.Commands.{SomeModesTellComplete}
use Rattle.kp_law_runs.specs.Solve.{NoPlanInSomeModes}
use Rattle.kp_law_runs.proofs.Following.{answers_are_whole}
use Rattle.kp_law_runs.proofs.OfCommands.{complete_text}

-- ---- `translate`

module _ (c : Asked) (mode : Mode) (source : (source_of c) ≡ of_mode mode) (each : CoversEach mode) (o : Outcome) (answers : IsNoRefusal o) where
  ground_told : (d : Domain Word) (p : Problem Word) (merges : List (List ℕ)) (table : TagTable) → AreProper (ground_of d p) (initial_of d p) → HasTable (ground_of d p) (initial_of d p) (source_of c) merges table → TranslatesGround c (ground_of d p) (initial_of d p) table o → PrintsComplete o.text
  ground_told d p merges table proper has (no_task r why is) = absurd (not_refused o nothing r is answers)
  ground_told d p merges table proper has (with_task fits put) =
      let own_table = subst (λ s. HasTable (ground_of d p) (initial_of d p) s merges table) source has in
      let whole = some_tables_are_complete (ground_of d p) (initial_of d p) mode merges table each proper.own_atoms own_table in
      subst (λ (z : Outcome). PrintsComplete z.text) (sym put.outcome) ((complete_text (ground_of d p) (initial_of d p) table put.uncovered proper put.are).1 whole)

  texts_told : (domain problem : List ℕ) (merges : List (List ℕ)) → TranslatesTexts c domain problem merges o → PrintsComplete o.text
  texts_told domain problem merges (early (by_texts r why is)) = absurd (not_refused o nothing r is answers)
  texts_told domain problem merges (early (by_trees d p names r trees why is)) = absurd (not_refused o names r is answers)
  texts_told domain problem merges (later d p trees ready (no_table names r why is)) = absurd (not_refused o names r is answers)
  texts_told domain problem merges (later d p trees ready (with_table table has goes)) = ground_told d p merges table (prepared_is_proper c.implicates d p trees.no_fault ready) has goes

pub some_modes_tell_complete : SomeModesTellComplete
some_modes_tell_complete words old new s ends c mode is source each is_done =
    let a = answers_are_whole words old new s ends (subst IsAnswer (sym is_done) tt) in
    let it = due_makes words old.held verbs.Translate c a.outcome is a.due in
    (a.outcome.text, a.answered.text_is, texts_told c mode source each a.outcome (λ r e. absurd (let f : status.Done ≡ status.Refused r = sym is_done ∙ (a.answered.status_is ∙ e) in cc)) it.contents.domain it.contents.problem it.contents.merges it.makes)

-- ---- `solve`

pub no_plan_in_some_modes : NoPlanInSomeModes
no_plan_in_some_modes words old new s ends m c mode held is source each is_negative =
    let answer = (solve_is_true words old new s ends m c held is).negative is_negative in
    let x = answer.posed in
    let own = (prepared_is_proper c.implicates x.about.domain_tree x.about.problem_tree x.given.trees.no_fault x.given.prepared).own_atoms in
    let table = subst (λ z. HasTable (its_ground x.about) (its_formula x.about) z x.has_task.merges x.about.table) source x.has_task.has_table in
    let printed = answer.complete.1 (some_tables_are_complete (its_ground x.about) (its_formula x.about) mode x.has_task.merges x.about.table each own table) in
    record { answer = answer; complete = printed; none = answer.none_given printed }
