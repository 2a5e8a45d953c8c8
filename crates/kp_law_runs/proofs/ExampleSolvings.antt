-- Calls to solve that end with a plan, with none, and with a spent budget: the premises of what is said of such runs are met, from the bytes on.
use Rattle.std.proofs.Common.{◌≡◌, ◌≢◌, ℕ, false, List, [], ◌∷◌, Option, Some, None, Vec, codes, inl, inr, refl, sym, ap, ◌∙◌, arith}
use Rattle.std.proofs.lemmas.Bool.{false≢true}
use Rattle.std.specs.FinMap.{empty, get, insert}
use Rattle.std.specs.Fmt.{digits}
use Rattle.std.specs.declared.alloc.Global.{Global}
use lib.Utf8.{encode}
use Rattle.kp_base.proofs.Lists.{same-refl}
use Rattle.kp_base.specs.declared.limits.Mode.TheVariants as modes
use Rattle.kp_base.specs.Lists.{Member}
use Rattle.kp_base.specs.Machine.{MachineStep}
use Rattle.kp_tree_grammar.specs.declared.tree.Word.{Word}
use Rattle.kp_tree_grammar.specs.Trees.{Domain, Problem}
use Rattle.kp_tree_grammar.proofs.Public.{exchange_text, exchange_tree, from_p_to_q_text, from_p_to_q_tree}
use Rattle.kp_names_semantics.specs.Names.{same}
use Rattle.kp_names_semantics.specs.Steps.{Step}
use Rattle.kp_classic.specs.declared.task.Task.{Task}
use Rattle.kp_classic.specs.Fits.{IsFit}
use Rattle.kp_classic.specs.States.{FactSet, has}
use Rattle.kp_guide.specs.declared.rule.Rule.{Rule}
use Rattle.kp_guide.specs.Added.{rules_of, goal_of, Costs}
use Rattle.kp_guide.specs.Added.Costs.{none, given, by_rule}
use Rattle.kp_search.specs.declared.found.Found.{Found}
use Rattle.kp_search.specs.declared.found.Found.TheVariants.{Plan, NoPlan, Spent}
use Rattle.kp_search.specs.Trace.{first, step}
use Rattle.kp_law_ktask.specs.Task.{task_of}
use Rattle.kp_law_translation.specs.OfTrees.{ground_of, initial_of}
use Rattle.kp_law_translation.specs.Tables.{empty_tag}
use Rattle.kp_law_translation.proofs.Public.{tables_can_be_written}
use Rattle.kp_outside.specs.Outside.{with_bytes}
use Rattle.kp_run_outcome.specs.declared.outcome.Outcome.{Outcome}
use Rattle.kp_run_outcome.specs.declared.status.Status.TheVariants as status
use Rattle.kp_run_outcome.specs.Ends.{Outside, with_files, whole}
use Rattle.kp_run_outcome.specs.Printing.{denies}
use Rattle.kp_words.specs.Asked.{of_mode, Asked}
use Rattle.kp_words.specs.declared.verb.Verb.TheVariants as verbs
use Rattle.kp_words_options.specs.Words.{nothing, a_word, apart as apart_words, word as said_word, option as said_option}
use Rattle.kp_words.specs.Command.{IsCall}
use Rattle.kp_words.proofs.Public.{word_of_bytes, call_by_words, files_by_computing, usual_numbers, nothing_generated}
use Rattle.kp_words.specs.Owned.{bare}
use Rattle.kp_run_prepare.specs.Texts.{HaveTrees}
use Rattle.kp_run_prepare.specs.Prepared.{IsPrepared, later}
use Rattle.kp_run_inputs.specs.SourceTables.{HasTable, by_mode, with_table}
use Rattle.kp_run_inputs.proofs.Public.{table_of_source_is_for_trees, empty_tags_fit, empty_tag_made, nothing_uncovered}
use Rattle.kp_run_inputs.specs.Tasks.{with_task}
use Rattle.kp_run_solve.specs.Solving.{Finds, solves, spends, AreNamed, TellsSolved}
use Rattle.kp_run_messages.specs.Searches.{no_plan_text}
use Rattle.kp_run_solve.proofs.Public.{task_of_trees_fits}
use Rattle.kp_run.specs.Solve.{SolvesTexts}
use Rattle.kp_run.specs.Ends.{Ends, came}
use Rattle.kp_run.proofs.Public.{got_after_insert, got_beside_insert, due_by, held_alone}
use Rattle.kp_law_runs.proofs.ExampleOutcomes.{holding as example_holding, unconditional as example_unconditional}
use Rattle.kp_run_prepare.proofs.Public.{problem_of_trees}
use Rattle.kp_run.specs.Solved.{IsSolved, HasNoPlan, IsSpent}
use Rattle.kp_law_runs.proofs.Solvings.{solved_is_a_plan, no_plan_is_true, spent_is_true}
use Rattle.kp_law_runs.proofs.ExampleCourses.{leading, reaching, unreached, with_plan, without_plan, spent}
use Rattle.kp_law_runs.proofs.ExampleFiles.{trees, prepared, to_both, to_both_tree, both_trees, both_prepared, chain, chain_tree, to_q, to_q_tree, chain_trees, chain_prepared}

-- ---- words

abbrev front : List (Vec ℕ Global) → List (Vec ℕ Global)
front more = word_of_bytes (codes "solve") (omega arith) ∷ word_of_bytes (codes "d") (omega arith) ∷ word_of_bytes (codes "p") (omega arith) ∷ word_of_bytes (codes "--mode") (omega arith) ∷ word_of_bytes (codes "k0") (omega arith) ∷ more

abbrev solving : ℕ → Option (List ℕ) → Asked
solving budget name = record (bare verbs.Solve) { domain = codes "d"; problem = codes "p"; mode = modes.K0; implicates = 20000; budget = budget; classical = name }

abbrev plain : List (Vec ℕ Global)
plain = front []

is_plain : IsCall verbs.Solve plain (solving 10000 None)
unfolding encode
is_plain =
    call_by_words verbs.Solve _ _ _ (said_word (codes "d") ∷ said_word (codes "p") ∷ said_option (codes "mode") (codes "k0") ∷ []) ((codes "solve", (refl, refl)), ((codes "d", (refl, refl)), ((codes "p", (refl, refl)), ((codes "--mode", (refl, refl)), ((codes "k0", (refl, refl)), tt))))) refl (a_word _ _ _ refl (a_word _ _ _ refl (apart_words (codes "mode") (codes "k0") _ _ refl refl (nothing)))) refl refl refl refl
    (record { files = files_by_computing refl tt; source = record { mode = refl; merges = refl; one_source = tt }; numbers = usual_numbers refl; generated = nothing_generated refl })

-- the classical plan is written to c
abbrev with_classical : List (Vec ℕ Global)
with_classical = front (word_of_bytes (codes "--classical") (omega arith) ∷ word_of_bytes (codes "c") (omega arith) ∷ [])

is_with_classical : IsCall verbs.Solve with_classical (solving 10000 (Some (codes "c")))
unfolding encode
is_with_classical =
    call_by_words verbs.Solve _ _ _ (said_word (codes "d") ∷ said_word (codes "p") ∷ said_option (codes "mode") (codes "k0") ∷ said_option (codes "classical") (codes "c") ∷ []) ((codes "solve", (refl, refl)), ((codes "d", (refl, refl)), ((codes "p", (refl, refl)), ((codes "--mode", (refl, refl)), ((codes "k0", (refl, refl)), ((codes "--classical", (refl, refl)), ((codes "c", (refl, refl)), tt))))))) refl (a_word _ _ _ refl (a_word _ _ _ refl (apart_words (codes "mode") (codes "k0") _ _ refl refl (apart_words (codes "classical") (codes "c") _ _ refl refl (nothing))))) refl refl refl refl
    (record { files = files_by_computing refl tt; source = record { mode = refl; merges = refl; one_source = tt }; numbers = usual_numbers refl; generated = nothing_generated refl })

-- one state may be expanded
abbrev with_budget : List (Vec ℕ Global)
with_budget = front (word_of_bytes (codes "--budget") (omega arith) ∷ word_of_bytes (codes "1") (omega arith) ∷ [])

is_with_budget : IsCall verbs.Solve with_budget (solving 1 None)
unfolding encode digits
is_with_budget =
    call_by_words verbs.Solve _ _ _ (said_word (codes "d") ∷ said_word (codes "p") ∷ said_option (codes "mode") (codes "k0") ∷ said_option (codes "budget") (codes "1") ∷ []) ((codes "solve", (refl, refl)), ((codes "d", (refl, refl)), ((codes "p", (refl, refl)), ((codes "--mode", (refl, refl)), ((codes "k0", (refl, refl)), ((codes "--budget", (refl, refl)), ((codes "1", (refl, refl)), tt))))))) refl (a_word _ _ _ refl (a_word _ _ _ refl (apart_words (codes "mode") (codes "k0") _ _ refl refl (apart_words (codes "budget") (codes "1") _ _ refl refl (nothing))))) refl refl refl refl
    (record { files = files_by_computing refl tt; source = record { mode = refl; merges = refl; one_source = tt }; numbers = record { implicates = refl; budget = (record { at_least = omega arith; at_most = omega arith }, refl); bound = refl }; generated = nothing_generated refl })

-- ---- two files

apart : (x y : List ℕ) → same x y ≡ false → x ≢ y
apart x y h e = false≢true (sym h ∙ (sym (ap (same x) e) ∙ same-refl x))

-- before a run on two files, and after it, where it comes to an outcome
abbrev pub before : List ℕ → List ℕ → Outside
before domain problem = record { held = Some (example_holding domain problem); told = Some []; get_faults = λ q. 0; put_faults = λ q. 0; write_faults = 0 }

abbrev pub after : List ℕ → List ℕ → Outcome → Outside
after domain problem o = record { held = with_files (Some (example_holding domain problem)) o.puts; told = with_bytes (Some []) o.text; get_faults = λ q. 0; put_faults = λ q. 0; write_faults = 0 }

pub domain_held : (domain problem : List ℕ) → get (example_holding domain problem) (codes "d") ≡ Some domain
domain_held domain problem = got_beside_insert (insert empty (codes "d") domain) (codes "d") (codes "p") problem (apart (codes "d") (codes "p") refl) ∙ got_after_insert empty (codes "d") domain

pub problem_held : (domain problem : List ℕ) → get (example_holding domain problem) (codes "p") ≡ Some problem
problem_held domain problem = got_after_insert (insert empty (codes "d") domain) (codes "p") problem

ends : (ws : List (Vec ℕ Global)) (budget : ℕ) (name : Option (List ℕ)) → IsCall verbs.Solve ws (solving budget name) → (domain problem : List ℕ) (o : Outcome) → SolvesTexts (solving budget name) domain problem [] o → Ends ws (before domain problem) (after domain problem o) o.status
ends ws budget name is domain problem o comes =
    came o (due_by verbs.Solve (solving budget name) (record { domain = domain; problem = problem; merges = []; plan = []; written = [] }) o is (record { domain = held_alone _ _ _ (domain_held domain problem); problem = held_alone _ _ _ (problem_held domain problem); merges = refl; plan = refl; written = refl }) comes)
    (whole refl (record { gets = λ q. refl; puts = λ q. refl; writes = refl }) refl refl)

-- two files and the table of the empty tag: what the search of their task finds is told
module _ (domain problem : List ℕ) (d : Domain Word) (p : Problem Word) (have : HaveTrees domain problem d p) (ready : IsPrepared 20000 d p) where
  has_table : HasTable (ground_of d p) (initial_of d p) (of_mode modes.K0) [] (empty_tag d p)
  has_table = by_mode modes.K0 (empty_tag d p) (empty_tag_made d p)

  fit : IsFit (task_of (ground_of d p) (empty_tag d p))
  fit =
      let fits = empty_tags_fit d p ready.started.small in
      task_of_trees_fits d p (empty_tag d p) ready.started.small fits (tables_can_be_written domain problem (problem_of_trees domain problem d p have) (empty_tag d p) (table_of_source_is_for_trees d p (of_mode modes.K0) [] (empty_tag d p) ready.started.small fits has_table))

  comes_to : (budget : ℕ) (name : Option (List ℕ)) (found : Found) (o : Outcome) → Finds (task_of (ground_of d p) (empty_tag d p)) budget found → TellsSolved name (ground_of d p) (initial_of d p) (empty_tag d p) found o → SolvesTexts (solving budget name) domain problem [] o
  comes_to budget name found o finds tells = later d p have ready (with_table (empty_tag d p) has_table (with_task (empty_tags_fit d p ready.started.small) (record { found = found; finds = finds; tells = tells })))

-- ---- from p to q: the plan is told, and the plan of the translation is put under c

abbrev swapping : Task
swapping = task_of (ground_of exchange_tree from_p_to_q_tree) (empty_tag exchange_tree from_p_to_q_tree)

swapping_fits : IsFit swapping
swapping_fits = fit exchange_text from_p_to_q_text exchange_tree from_p_to_q_tree trees prepared

found_plan : Finds swapping 10000 (Plan (0 ∷ []) 1)
found_plan =
    let here = leading swapping swapping_fits (first swapping) (0 ∷ []) refl in
    let there = leading swapping swapping_fits (step swapping 0 (first swapping)) [] refl in
    with_plan swapping 10000 (omega arith) refl refl refl here.0 here.1 there.0 there.1 (λ e. false≢true (sym (ap (λ (s : FactSet). has s.hold 0) e))) refl

abbrev a : Step
a = record { head = codes "a"; objects = [] }

abbrev do_a : Step
do_a = record { head = codes "do_-a"; objects = [] }

are_named : AreNamed (ground_of exchange_tree from_p_to_q_tree) (empty_tag exchange_tree from_p_to_q_tree) (0 ∷ []) (do_a ∷ []) (a ∷ [])
are_named = record { machine = MachineStep.act 0 ∷ []; numbers = refl; steps_are = refl; actions_are = refl }

abbrev the_plan : Outcome
the_plan = solves (Some (codes "c")) (do_a ∷ []) (a ∷ [])

ends_with_plan : Ends with_classical (before exchange_text from_p_to_q_text) (after exchange_text from_p_to_q_text the_plan) status.Done
ends_with_plan =
    ends with_classical 10000 (Some (codes "c")) is_with_classical exchange_text from_p_to_q_text the_plan
    (comes_to exchange_text from_p_to_q_text exchange_tree from_p_to_q_tree trees prepared 10000 (Some (codes "c")) (Plan (0 ∷ []) 1) the_plan found_plan (do_a ∷ [], a ∷ [], are_named, refl))

is_solved : IsSolved (example_holding exchange_text from_p_to_q_text) (solving 10000 (Some (codes "c"))) (before exchange_text from_p_to_q_text) (after exchange_text from_p_to_q_text the_plan)
is_solved = solved_is_a_plan with_classical _ _ status.Done ends_with_plan (example_holding exchange_text from_p_to_q_text) (solving 10000 (Some (codes "c"))) refl is_with_classical refl

-- a line of each
told_and_put : after exchange_text from_p_to_q_text the_plan ≡ record { held = Some (insert (example_holding exchange_text from_p_to_q_text) (codes "c") (codes "(do_-a)\n")); told = Some (codes "(a)\n"); get_faults = λ q. 0; put_faults = λ q. 0; write_faults = 0 }
told_and_put = refl

-- ---- from p to both: there is no plan, and the table is complete

abbrev pub keeping : Task
keeping = task_of (ground_of exchange_tree to_both_tree) (empty_tag exchange_tree to_both_tree)

keeping_fits : IsFit keeping
keeping_fits = fit exchange_text to_both exchange_tree to_both_tree both_trees both_prepared

-- by rules both are reached, as if p didn't go
both_cost : Costs (rules_of keeping) (has (first keeping).hold) (goal_of keeping) 1
both_cost = given 0 (2 ∷ []) 1 refl (by_rule (record { fact = 2; needs = 0 ∷ [] }) 0 [] 0 (inl refl) (given 0 [] 0 refl none) none)

-- but once it went, no rule adds it
p_lost : (n : ℕ) → Costs (rules_of keeping) (has (step keeping 0 (first keeping)).hold) (goal_of keeping) n → ⊥
p_lost n costs = unreached (rules_of keeping) (has (step keeping 0 (first keeping)).hold) 0 refl no_rule (2 ∷ []) (goal_of keeping) n costs refl
  where
    no_rule : (r : Rule) → Member (rules_of keeping) r → r.fact ≡ 0 → ⊥
    no_rule r (inl m) is = let e : 2 ≡ 0 = ap (λ (x : Rule). x.fact) m ∙ is in omega (arith, e)
    no_rule r (inr (inl m)) is = let e : 1 ≡ 0 = ap (λ (x : Rule). x.fact) m ∙ is in omega (arith, e)
    no_rule r (inr (inr never)) is = absurd never

pub found_none : Finds keeping 10000 NoPlan
found_none = let here = reaching keeping keeping_fits (first keeping) 1 both_cost in without_plan keeping 10000 (omega arith) refl refl refl here.0 here.1 p_lost

abbrev pub no_plan : Outcome
no_plan = denies (no_plan_text [])

ends_with_none : Ends plain (before exchange_text to_both) (after exchange_text to_both no_plan) status.Negative
ends_with_none =
    ends plain 10000 None is_plain exchange_text to_both no_plan
    (comes_to exchange_text to_both exchange_tree to_both_tree both_trees both_prepared 10000 None NoPlan no_plan found_none ([], nothing_uncovered (ground_of exchange_tree to_both_tree) (initial_of exchange_tree to_both_tree) (example_unconditional to_both_tree refl) (empty_tag exchange_tree to_both_tree), refl))

has_no_plan : HasNoPlan (example_holding exchange_text to_both) (solving 10000 None) (before exchange_text to_both) (after exchange_text to_both no_plan)
has_no_plan = no_plan_is_true plain _ _ status.Negative ends_with_none (example_holding exchange_text to_both) (solving 10000 None) refl is_plain refl

told_none : (after exchange_text to_both no_plan).told ≡ Some (codes "no plan\ncomplete\n")
told_none = refl

-- ---- from nothing to q: one state may be expanded, and another waits

abbrev turning : Task
turning = task_of (ground_of chain_tree to_q_tree) (empty_tag chain_tree to_q_tree)

turning_fits : IsFit turning
turning_fits = fit chain to_q chain_tree to_q_tree chain_trees chain_prepared

found_more : Finds turning 1 (Spent 1)
found_more =
    let here = leading turning turning_fits (first turning) (0 ∷ 0 ∷ []) refl in
    let there = leading turning turning_fits (step turning 0 (first turning)) (0 ∷ []) refl in
    spent turning 1 (omega arith) refl refl refl here.0 here.1 there.0 there.1 (λ e. false≢true (sym (ap (λ (s : FactSet). has s.hold 1) e))) refl refl

ends_spent : Ends with_budget (before chain to_q) (after chain to_q (spends 1)) status.Spent
ends_spent = ends with_budget 1 None is_with_budget chain to_q (spends 1) (comes_to chain to_q chain_tree to_q_tree chain_trees chain_prepared 1 None (Spent 1) (spends 1) found_more refl)

is_spent : IsSpent (example_holding chain to_q) (solving 1 None) (before chain to_q) (after chain to_q (spends 1))
is_spent = spent_is_true with_budget _ _ status.Spent ends_spent (example_holding chain to_q) (solving 1 None) refl is_with_budget refl
