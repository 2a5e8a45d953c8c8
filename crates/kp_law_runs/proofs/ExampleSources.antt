-- Runs with other tags than those of `k0`: those of `models`, and those of a file of merges. The premises of what is said of such runs are met, from the bytes on.
use Rattle.std.proofs.Common.{◌≡◌, ◌≢◌, ◌∙◌, ℕ, false, List, [], ◌∷◌, map, Some, None, Vec, codes, inl, inr, refl, sym, ap, subst, arith}
use Rattle.std.specs.FinMap.{get, insert}
use Rattle.std.specs.declared.alloc.Global.{Global}
use Rattle.std.proofs.lemmas.Bool.{false≢true}
use lib.Utf8.{encode}
use Rattle.kp_base.proofs.Lists.{same-refl}
use Rattle.kp_base.specs.declared.ground.Action.{Action}
use Rattle.kp_base.specs.declared.ground.Ground.{Ground}
use Rattle.kp_base.specs.declared.ground.TagTable.{TagTable}
use Rattle.kp_base.specs.declared.limits.Mode.TheVariants as modes
use Rattle.kp_base.specs.declared.lit.Lit.{Lit}
use Rattle.kp_base.specs.Planning.{Member, positive, IsTarget, of_precondition, of_goal}
use Rattle.kp_lex.specs.Bytes.{class_of}
use Rattle.kp_lex.specs.Scanning.{cut_from}
use Rattle.kp_tree_grammar.specs.Symbols.{symbol_of}
use Rattle.kp_tree_grammar.specs.Parsing.{some_at, next_at}
use Rattle.kp_tree_grammar.proofs.Public.{tokens_of_text, reads_by_computing, exchange_text, exchange_tree, from_p_to_q_text, from_p_to_q_tree}
use Rattle.kp_names_semantics.specs.Names.{same}
use Rattle.kp_plans.specs.PlanFiles.{step_of}
use Rattle.kp_cover.specs.Targets.{AreTargets}
use Rattle.kp_tags_files.specs.Grammar.{merges}
use Rattle.kp_tags_files.specs.MergesFiles.{IsMergesOf}
use Rattle.kp_tags_modes.specs.Modes.{CoversEach}
use Rattle.kp_tags.specs.Answers.{Accepts}
use Rattle.kp_tags.specs.Made.{IsMade}
use Rattle.kp_search.specs.declared.found.Found.TheVariants.{NoPlan}
use Rattle.kp_law_translation.specs.OfTrees.{ground_of, initial_of}
use Rattle.kp_law_translation.specs.Tables.{empty_tag}
use Rattle.kp_law_translation.specs.Written.{translation_of}
use Rattle.kp_outside.specs.Outside.{FileMap}
use Rattle.kp_run_outcome.specs.declared.outcome.Outcome.{Outcome}
use Rattle.kp_run_outcome.specs.declared.status.Status.TheVariants as status
use Rattle.kp_run_outcome.specs.Ends.{Outside, whole}
use Rattle.kp_words_options.specs.Words.{nothing, a_word, apart as apart_words, word as said_word, option as said_option}
use Rattle.kp_words.specs.Asked.{Asked}
use Rattle.kp_words.specs.declared.verb.Verb.TheVariants as verbs
use Rattle.kp_words.specs.Command.{IsCall}
use Rattle.kp_words.proofs.Public.{word_of_bytes, example_two_apart, call_by_words, files_by_computing, usual_numbers, nothing_generated}
use Rattle.kp_words.specs.Owned.{bare}
use Rattle.kp_run_prepare.specs.Prepared.{usual, later}
use Rattle.kp_run_inputs.specs.SourceTables.{by_mode, by_file, with_table}
use Rattle.kp_run_inputs.specs.Tasks.{with_task}
use Rattle.kp_run.specs.Translate.{translates, TranslatesTexts}
use Rattle.kp_run.specs.Solve.{SolvesTexts}
use Rattle.kp_run.specs.Ends.{Ends, came}
use Rattle.kp_run.specs.Completeness.{PrintsComplete, RanComplete, one_text, IsOfTheSame, HoldsPlan}
use Rattle.kp_run.specs.Solved.{Tells}
use Rattle.kp_run_inputs.proofs.Public.{empty_tags_fit, table_of_none, empty_tag_made_in_modes, nothing_uncovered}
use Rattle.kp_run.proofs.Public.{complete_is_told, got_after_insert, got_beside_insert, due_by, held_alone}
use Rattle.kp_law_runs.proofs.ExampleOutcomes.{exchange_action as example_exchange_action, holding as example_holding, due_with as example_due_with, unconditional as example_unconditional}
use Rattle.kp_law_runs.specs.Solve.{GivenHaveNoPlan}
use Rattle.kp_law_runs.proofs.SomeModes.{some_modes_tell_complete, no_plan_in_some_modes}
use Rattle.kp_law_runs.proofs.ExampleFiles.{trees, prepared, to_both, to_both_tree, both_trees, both_prepared}
use Rattle.kp_law_runs.proofs.ExampleLifts.{a, plan_file, plan_words, reads, is_plan}
use Rattle.kp_law_runs.proofs.ExampleSolvings.{before as solving_from, after as solving_to, domain_held, problem_held, found_none, no_plan}

apart : (x y : List ℕ) → same x y ≡ false → x ≢ y
apart x y h e = false≢true (sym h ∙ (sym (ap (same x) e) ∙ same-refl x))

-- ---- the table of `models`: both atoms are targets, and the empty tag covers them

abbrev both : List Lit
both = positive 0 ∷ positive 1 ∷ []

are_targets : (g : Ground) → g.actions ≡ example_exchange_action ∷ [] → Member g.goal (positive 1) → ((l : Lit) → Member g.goal l → Member both l) → AreTargets g both
are_targets g acts aims within = record { exact = λ l. (there l, among l); ascending = (omega arith, tt) }
  where
    there : (l : Lit) → Member both l → IsTarget g l
    there l (inl e) = of_precondition example_exchange_action (subst (λ (xs : List Action). Member xs example_exchange_action) (sym acts) (inl refl)) (inl e)
    there l (inr (inl e)) = of_goal (subst (Member g.goal) e aims)
    there l (inr (inr never)) = absurd never

    asked : (l : Lit) → Member example_exchange_action.pre l → Member both l
    asked l (inl e) = inl e
    asked l (inr never) = absurd never

    of_action : (l : Lit) (x : Action) → Member (example_exchange_action ∷ []) x → Member x.pre l → Member both l
    of_action l x (inl e) k = asked l (subst (λ (y : Action). Member y.pre l) (sym e) k)
    of_action l x (inr never) k = absurd never

    among : (l : Lit) → IsTarget g l → Member both l
    among l (of_precondition x m k) = of_action l x (subst (λ (xs : List Action). Member xs x) acts m) k
    among l (of_goal k) = within l k

made : IsMade modes.Models usual (ground_of exchange_tree from_p_to_q_tree) (initial_of exchange_tree from_p_to_q_tree) (empty_tag exchange_tree from_p_to_q_tree)
made = empty_tag_made_in_modes exchange_tree from_p_to_q_tree modes.Models _ both (example_unconditional from_p_to_q_tree refl) refl (are_targets (ground_of exchange_tree from_p_to_q_tree) refl (inl refl) (λ l. within l))
  where
    within : (l : Lit) → Member (positive 1 ∷ []) l → Member both l
    within l (inl e) = inr (inl e)
    within l (inr never) = absurd never

made_for_both : IsMade modes.Models usual (ground_of exchange_tree to_both_tree) (initial_of exchange_tree to_both_tree) (empty_tag exchange_tree to_both_tree)
made_for_both = empty_tag_made_in_modes exchange_tree to_both_tree modes.Models _ both (example_unconditional to_both_tree refl) refl (are_targets (ground_of exchange_tree to_both_tree) refl (inr (inl refl)) (λ l m. m))

-- ---- a translation in `models`: it told `complete`

abbrev table : TagTable
table = empty_tag exchange_tree from_p_to_q_tree

abbrev front : List (Vec ℕ Global) → List (Vec ℕ Global)
front more = word_of_bytes (codes "translate") (omega arith) ∷ word_of_bytes (codes "d") (omega arith) ∷ word_of_bytes (codes "p") (omega arith) ∷ word_of_bytes (codes "od") (omega arith) ∷ word_of_bytes (codes "op") (omega arith) ∷ more

abbrev in_models : List (Vec ℕ Global)
in_models = front (word_of_bytes (codes "--mode") (omega arith) ∷ word_of_bytes (codes "models") (omega arith) ∷ [])

abbrev by_models : Asked
by_models = record (bare verbs.Translate) { domain = codes "d"; problem = codes "p"; domain_out = codes "od"; problem_out = codes "op"; mode = modes.Models; implicates = 20000 }

is_in_models : IsCall verbs.Translate in_models by_models
unfolding encode
is_in_models =
    call_by_words verbs.Translate _ _ _ (said_word (codes "d") ∷ said_word (codes "p") ∷ said_word (codes "od") ∷ said_word (codes "op") ∷ said_option (codes "mode") (codes "models") ∷ []) ((codes "translate", (refl, refl)), ((codes "d", (refl, refl)), ((codes "p", (refl, refl)), ((codes "od", (refl, refl)), ((codes "op", (refl, refl)), ((codes "--mode", (refl, refl)), ((codes "models", (refl, refl)), tt))))))) refl (a_word _ _ _ refl (a_word _ _ _ refl (a_word _ _ _ refl (a_word _ _ _ refl (apart_words (codes "mode") (codes "models") _ _ refl refl (nothing)))))) refl refl refl refl
    (record { files = files_by_computing refl (example_two_apart (codes "od") (codes "op") refl); source = record { mode = refl; merges = refl; one_source = tt }; numbers = usual_numbers refl; generated = nothing_generated refl })

-- what both translations come to: their output names are the same
abbrev outcome : Outcome
outcome = translates by_models (ground_of exchange_tree from_p_to_q_tree) table []

comes_by_models : TranslatesTexts by_models exchange_text from_p_to_q_text [] outcome
comes_by_models = later exchange_tree from_p_to_q_tree trees prepared (with_table table (by_mode modes.Models table made) (with_task (empty_tags_fit exchange_tree from_p_to_q_tree prepared.started.small) (record { uncovered = []; are = nothing_uncovered (ground_of exchange_tree from_p_to_q_tree) (initial_of exchange_tree from_p_to_q_tree) (example_unconditional from_p_to_q_tree refl) table; outcome = refl })))

-- the outside before a run on some files, and after it
abbrev from : FileMap → Outside
from held = record { held = Some held; told = Some []; get_faults = λ q. 0; put_faults = λ q. 0; write_faults = 0 }

abbrev with_outputs : FileMap → FileMap
with_outputs held = insert (insert held (codes "od") (translation_of exchange_tree from_p_to_q_tree table).domain) (codes "op") (translation_of exchange_tree from_p_to_q_tree table).problem

abbrev to : FileMap → Outside
to held = record { held = Some (with_outputs held); told = Some outcome.text; get_faults = λ q. 0; put_faults = λ q. 0; write_faults = 0 }

abbrev held : FileMap
held = example_holding exchange_text from_p_to_q_text

ends_in_models : Ends in_models (from held) (to held) status.Done
ends_in_models = came outcome (example_due_with in_models by_models is_in_models refl refl refl exchange_text from_p_to_q_text outcome comes_by_models) (whole refl (record { gets = λ q. refl; puts = λ q. refl; writes = refl }) refl refl)

complete_told : (text : List ℕ) × Tells (from held) (to held) text × PrintsComplete text
complete_told = some_modes_tell_complete in_models (from held) (to held) status.Done ends_in_models by_models modes.Models is_in_models refl CoversEach.models refl

-- ---- a call to solve in `models` that ends with no plan: the two files have none

abbrev solve_in_models : List (Vec ℕ Global)
solve_in_models = word_of_bytes (codes "solve") (omega arith) ∷ word_of_bytes (codes "d") (omega arith) ∷ word_of_bytes (codes "p") (omega arith) ∷ word_of_bytes (codes "--mode") (omega arith) ∷ word_of_bytes (codes "models") (omega arith) ∷ []

abbrev solving : Asked
solving = record (bare verbs.Solve) { domain = codes "d"; problem = codes "p"; mode = modes.Models; implicates = 20000; budget = 10000; classical = None }

is_solve : IsCall verbs.Solve solve_in_models solving
unfolding encode
is_solve =
    call_by_words verbs.Solve _ _ _ (said_word (codes "d") ∷ said_word (codes "p") ∷ said_option (codes "mode") (codes "models") ∷ []) ((codes "solve", (refl, refl)), ((codes "d", (refl, refl)), ((codes "p", (refl, refl)), ((codes "--mode", (refl, refl)), ((codes "models", (refl, refl)), tt))))) refl (a_word _ _ _ refl (a_word _ _ _ refl (apart_words (codes "mode") (codes "models") _ _ refl refl (nothing)))) refl refl refl refl
    (record { files = files_by_computing refl tt; source = record { mode = refl; merges = refl; one_source = tt }; numbers = usual_numbers refl; generated = nothing_generated refl })

comes_to_none : SolvesTexts solving exchange_text to_both [] no_plan
comes_to_none = later exchange_tree to_both_tree both_trees both_prepared (with_table (empty_tag exchange_tree to_both_tree) (by_mode modes.Models (empty_tag exchange_tree to_both_tree) made_for_both)
    (with_task (empty_tags_fit exchange_tree to_both_tree both_prepared.started.small) (record { found = NoPlan; finds = found_none; tells = ([], nothing_uncovered (ground_of exchange_tree to_both_tree) (initial_of exchange_tree to_both_tree) (example_unconditional to_both_tree refl) (empty_tag exchange_tree to_both_tree), refl) })))

ends_with_none : Ends solve_in_models (solving_from exchange_text to_both) (solving_to exchange_text to_both no_plan) status.Negative
ends_with_none =
    came no_plan (due_by verbs.Solve solving (record { domain = exchange_text; problem = to_both; merges = []; plan = []; written = [] }) no_plan is_solve (record { domain = held_alone _ _ _ (domain_held exchange_text to_both); problem = held_alone _ _ _ (problem_held exchange_text to_both); merges = refl; plan = refl; written = refl }) comes_to_none)
    (whole refl (record { gets = λ q. refl; puts = λ q. refl; writes = refl }) refl refl)

none_given : GivenHaveNoPlan (example_holding exchange_text to_both) solving (solving_from exchange_text to_both) (solving_to exchange_text to_both no_plan)
none_given = no_plan_in_some_modes solve_in_models _ _ status.Negative ends_with_none (example_holding exchange_text to_both) solving modes.Models refl is_solve refl CoversEach.models refl

-- ---- a translation with a file of merges, and a lift with a copy of it under another name

abbrev with_merges : List (Vec ℕ Global)
with_merges = front (word_of_bytes (codes "--merges") (omega arith) ∷ word_of_bytes (codes "m") (omega arith) ∷ [])

abbrev by_merges : Asked
by_merges = record (bare verbs.Translate) { domain = codes "d"; problem = codes "p"; domain_out = codes "od"; problem_out = codes "op"; merges = Some (codes "m"); implicates = 20000 }

is_with_merges : IsCall verbs.Translate with_merges by_merges
unfolding encode
is_with_merges =
    call_by_words verbs.Translate _ _ _ (said_word (codes "d") ∷ said_word (codes "p") ∷ said_word (codes "od") ∷ said_word (codes "op") ∷ said_option (codes "merges") (codes "m") ∷ []) ((codes "translate", (refl, refl)), ((codes "d", (refl, refl)), ((codes "p", (refl, refl)), ((codes "od", (refl, refl)), ((codes "op", (refl, refl)), ((codes "--merges", (refl, refl)), ((codes "m", (refl, refl)), tt))))))) refl (a_word _ _ _ refl (a_word _ _ _ refl (a_word _ _ _ refl (a_word _ _ _ refl (apart_words (codes "merges") (codes "m") _ _ refl refl (nothing)))))) refl refl refl refl
    (record { files = files_by_computing refl (example_two_apart (codes "od") (codes "op") refl); source = record { mode = refl; merges = refl; one_source = tt }; numbers = usual_numbers refl; generated = nothing_generated refl })

-- the file of merges has a line feed alone
abbrev merges_file : List ℕ
merges_file = codes "\n"

reads_none : IsMergesOf (ground_of exchange_tree from_p_to_q_tree).atoms merges_file []
unfolding cut_from class_of symbol_of some_at next_at
reads_none = record { tree = []; are = tt; reads = reads_by_computing merges merges_file (tokens_of_text merges_file) [] refl refl }

accepted : Accepts 2 (initial_of exchange_tree from_p_to_q_tree) [] usual.tags table
accepted = record { acceptable = record { each = λ m k. absurd k }; within_limit = omega arith; is_table = table_of_none exchange_tree from_p_to_q_tree }

comes_by_merges : TranslatesTexts by_merges exchange_text from_p_to_q_text (merges_file ∷ []) outcome
comes_by_merges = later exchange_tree from_p_to_q_tree trees prepared (with_table table (by_file (codes "m") merges_file [] table (omega arith) reads_none accepted) (with_task (empty_tags_fit exchange_tree from_p_to_q_tree prepared.started.small) (record { uncovered = []; are = nothing_uncovered (ground_of exchange_tree from_p_to_q_tree) (initial_of exchange_tree from_p_to_q_tree) (example_unconditional from_p_to_q_tree refl) table; outcome = refl })))

abbrev before : FileMap
before = insert held (codes "m") merges_file

first_held : get before (codes "d") ≡ Some exchange_text
first_held = got_beside_insert held (codes "d") (codes "m") merges_file (apart (codes "d") (codes "m") refl) ∙ domain_held exchange_text from_p_to_q_text

second_held : get before (codes "p") ≡ Some from_p_to_q_text
second_held = got_beside_insert held (codes "p") (codes "m") merges_file (apart (codes "p") (codes "m") refl) ∙ problem_held exchange_text from_p_to_q_text

merges_held : get before (codes "m") ≡ Some merges_file
merges_held = got_after_insert held (codes "m") merges_file

ends_with_merges : Ends with_merges (from before) (to before) status.Done
ends_with_merges =
    came outcome (due_by verbs.Translate by_merges (record { domain = exchange_text; problem = from_p_to_q_text; merges = (merges_file ∷ []); plan = []; written = [] }) outcome is_with_merges (record { domain = held_alone _ _ _ first_held; problem = held_alone _ _ _ second_held; merges = ap (λ x. x ∷ []) merges_held; plan = refl; written = refl }) comes_by_merges)
    (whole refl (record { gets = λ q. refl; puts = λ q. refl; writes = refl }) refl refl)

ran : RanComplete Ends with_merges by_merges before (with_outputs before)
ran = record { old = from before; new = to before; earlier = []; text = outcome.text; is_translate = is_with_merges; ended = ends_with_merges; held_before = refl; held_after = refl; told_before = refl; told_after = refl; complete = complete_is_told (ground_of exchange_tree from_p_to_q_tree) table }

abbrev command : Asked
command = record (bare verbs.Lift) { domain = codes "d"; problem = codes "p"; plan = codes "t"; merges = Some (codes "n"); implicates = 20000 }

abbrev now : FileMap
now = insert (insert before (codes "n") merges_file) (codes "t") plan_file

-- what is held beside the copy and the plan file is as before
as_before : (name : List ℕ) → name ≢ codes "t" → name ≢ codes "n" → get now name ≡ get before name
as_before name plan copy = got_beside_insert (insert before (codes "n") merges_file) name (codes "t") plan_file plan ∙ got_beside_insert before name (codes "n") merges_file copy

domain_now : get now (codes "d") ≡ get before (codes "d")
domain_now = as_before (codes "d") (apart (codes "d") (codes "t") refl) (apart (codes "d") (codes "n") refl)

problem_now : get now (codes "p") ≡ get before (codes "p")
problem_now = as_before (codes "p") (apart (codes "p") (codes "t") refl) (apart (codes "p") (codes "n") refl)

copy_held : get now (codes "n") ≡ Some merges_file
copy_held = got_beside_insert (insert before (codes "n") merges_file) (codes "n") (codes "t") plan_file (apart (codes "n") (codes "t") refl) ∙ got_after_insert before (codes "n") merges_file

is_same : IsOfTheSame by_merges before command now
is_same = record { domain = sym domain_now; problem = sym problem_now; source = one_text (codes "m") (codes "n") (merges_held ∙ sym copy_held); implicates = omega arith }

holds : HoldsPlan now command (a ∷ [])
holds = record {
  domain = exchange_text;
  problem = from_p_to_q_text;
  text = plan_file;
  steps = map (step_of plan_file) plan_words;
  domain_held = domain_now ∙ first_held;
  problem_held = problem_now ∙ second_held;
  plan_held = got_after_insert (insert before (codes "n") merges_file) (codes "t") plan_file;
  short = omega arith;
  reads = reads;
  names_are = refl;
  is_plan = is_plan;
}
