-- Calls to solve two classical files that end with a plan, with none, and with a spent budget: the premises of what is said of such runs are met, from the bytes on.
use Rattle.std.proofs.Common.{◌≡◌, ◌≢◌, ℕ, false, List, [], ◌∷◌, Some, None, Vec, codes, inl, inr, refl, sym, ap, ◌∙◌, arith}
use Rattle.std.proofs.lemmas.Bool.{false≢true}
use Rattle.std.specs.FinMap.{empty, get, insert}
use Rattle.std.specs.Fmt.{digits}
use Rattle.std.specs.declared.alloc.Global.{Global}
use lib.Utf8.{encode}
use Rattle.kp_base.proofs.Lists.{same-refl}
use Rattle.kp_base.specs.Lists.{Member}
use Rattle.kp_tree_grammar.specs.declared.tree.Word.{Word}
use Rattle.kp_tree_grammar.specs.Trees.{Domain, Problem}
use Rattle.kp_tree_grammar.proofs.Public.{exchange_text, exchange_tree, from_p_to_q_text, from_p_to_q_tree}
use Rattle.kp_names_semantics.specs.Names.{same}
use Rattle.kp_names_semantics.specs.Steps.{Step}
use Rattle.kp_classic.specs.declared.task.Task.{Task}
use Rattle.kp_classic.specs.Fits.{IsFit}
use Rattle.kp_classic.specs.States.{FactSet, has}
use Rattle.kp_guide.specs.declared.rule.Rule.{Rule}
use Rattle.kp_guide.specs.Added.{rules_of, goal_of, Costs}
use Rattle.kp_guide.specs.Added.Costs.{none, given, by_rule}
use Rattle.kp_search.specs.declared.found.Found.{Found}
use Rattle.kp_search.specs.declared.found.Found.TheVariants.{Plan, NoPlan, Spent}
use Rattle.kp_search.specs.Trace.{first, step}
use Rattle.kp_law_translation.specs.OfTrees.{ground_of}
use Rattle.kp_outside.specs.Outside.{with_bytes}
use Rattle.kp_run_outcome.specs.declared.outcome.Outcome.{Outcome}
use Rattle.kp_run_outcome.specs.declared.status.Status.TheVariants as status
use Rattle.kp_run_outcome.specs.Ends.{Outside, whole}
use Rattle.kp_run_outcome.specs.Printing.{denies}
use Rattle.kp_words.specs.Asked.{Asked}
use Rattle.kp_words.specs.declared.verb.Verb.TheVariants as verbs
use Rattle.kp_words_options.specs.Words.{nothing, a_word, apart as apart_words, word as said_word, option as said_option}
use Rattle.kp_words.specs.Command.{IsCall}
use Rattle.kp_words.proofs.Public.{word_of_bytes, example_is_classical as is_classical_call, call_by_words, files_by_computing, usual_source, nothing_generated}
use Rattle.kp_words.specs.Owned.{bare}
use Rattle.kp_run_prepare.specs.Texts.{HaveTrees}
use Rattle.kp_run_classical.specs.Classical.{IsClassicalProblem, later, task_of}
use Rattle.kp_run_solve.specs.Solving.{Finds, solves, spends, TellsClassical}
use Rattle.kp_run_messages.specs.Searches.{no_plan_line}
use Rattle.kp_run_classical.proofs.Public.{classical_task_fits}
use Rattle.kp_run.specs.Classical.{ClassicalTexts}
use Rattle.kp_run.specs.Ends.{Ends, came}
use Rattle.kp_run.proofs.Public.{got_after_insert, got_beside_insert, due_by, held_alone}
use Rattle.kp_law_runs.proofs.ExampleOutcomes.{holding as example_holding}
use Rattle.kp_run.specs.Solved.{IsSolvedClassical, HasNoClassicalPlan, IsSpentClassical}
use Rattle.kp_law_runs.proofs.Classicals.{classical_is_a_plan, no_classical_plan_is_true, classical_spent_is_true}
use Rattle.kp_law_runs.proofs.ExampleCourses.{leading, reaching, unreached, with_plan, without_plan, spent}
use Rattle.kp_law_runs.proofs.ExampleFiles.{trees, is_classical, to_both, to_both_tree, both_trees, both_classical, chain, chain_tree, to_q, to_q_tree, chain_trees, chain_classical}

-- ---- words

abbrev front : List (Vec ℕ Global) → List (Vec ℕ Global)
front more = word_of_bytes (codes "classical") (omega arith) ∷ word_of_bytes (codes "d") (omega arith) ∷ word_of_bytes (codes "p") (omega arith) ∷ more

abbrev solving : ℕ → Asked
solving budget = record (bare verbs.Classical) { domain = codes "d"; problem = codes "p"; budget = budget }

-- one state may be expanded
abbrev with_budget : List (Vec ℕ Global)
with_budget = front (word_of_bytes (codes "--budget") (omega arith) ∷ word_of_bytes (codes "1") (omega arith) ∷ [])

is_with_budget : IsCall verbs.Classical with_budget (solving 1)
unfolding encode digits
is_with_budget =
    call_by_words verbs.Classical _ _ _ (said_word (codes "d") ∷ said_word (codes "p") ∷ said_option (codes "budget") (codes "1") ∷ []) ((codes "classical", (refl, refl)), ((codes "d", (refl, refl)), ((codes "p", (refl, refl)), ((codes "--budget", (refl, refl)), ((codes "1", (refl, refl)), tt))))) refl (a_word _ _ _ refl (a_word _ _ _ refl (apart_words (codes "budget") (codes "1") _ _ refl refl (nothing)))) refl refl refl refl
    (record { files = files_by_computing refl tt; source = usual_source refl; numbers = record { implicates = refl; budget = (record { at_least = omega arith; at_most = omega arith }, refl); bound = refl }; generated = nothing_generated refl })

-- ---- two files

apart : (x y : List ℕ) → same x y ≡ false → x ≢ y
apart x y h e = false≢true (sym h ∙ (sym (ap (same x) e) ∙ same-refl x))

-- before a run on two files, and after it, where it tells a text
abbrev before : List ℕ → List ℕ → Outside
before domain problem = record { held = Some (example_holding domain problem); told = Some []; get_faults = λ q. 0; put_faults = λ q. 0; write_faults = 0 }

abbrev after : List ℕ → List ℕ → List ℕ → Outside
after domain problem text = record { held = Some (example_holding domain problem); told = with_bytes (Some []) text; get_faults = λ q. 0; put_faults = λ q. 0; write_faults = 0 }

domain_held : (domain problem : List ℕ) → get (example_holding domain problem) (codes "d") ≡ Some domain
domain_held domain problem = got_beside_insert (insert empty (codes "d") domain) (codes "d") (codes "p") problem (apart (codes "d") (codes "p") refl) ∙ got_after_insert empty (codes "d") domain

problem_held : (domain problem : List ℕ) → get (example_holding domain problem) (codes "p") ≡ Some problem
problem_held domain problem = got_after_insert (insert empty (codes "d") domain) (codes "p") problem

ends : (ws : List (Vec ℕ Global)) (budget : ℕ) → IsCall verbs.Classical ws (solving budget) → (domain problem : List ℕ) (o : Outcome) → o.puts ≡ [] → ClassicalTexts (solving budget) domain problem o → Ends ws (before domain problem) (after domain problem o.text) o.status
ends ws budget is domain problem o no_file comes =
    came o (due_by verbs.Classical (solving budget) (record { domain = domain; problem = problem; merges = []; plan = []; written = [] }) o is (record { domain = held_alone _ _ _ (domain_held domain problem); problem = held_alone _ _ _ (problem_held domain problem); merges = refl; plan = refl; written = refl }) comes)
    (whole refl (record { gets = λ q. refl; puts = λ q. refl; writes = refl }) (rw no_file refl) refl)

-- what the search of their task finds is told
comes_to : (domain problem : List ℕ) (d : Domain Word) (p : Problem Word) → HaveTrees domain problem d p → IsClassicalProblem d p → (budget : ℕ) (found : Found) (o : Outcome) → Finds (task_of d p) budget found → TellsClassical (ground_of d p) found o → ClassicalTexts (solving budget) domain problem o
comes_to domain problem d p have ready budget found o finds tells = later d p have ready (record { found = found; finds = finds; tells = tells })

-- ---- from p to q: the plan is told

abbrev swapping : Task
swapping = task_of exchange_tree from_p_to_q_tree

swapping_fits : IsFit swapping
swapping_fits = classical_task_fits exchange_tree from_p_to_q_tree is_classical

found_plan : Finds swapping 10000 (Plan (0 ∷ []) 1)
found_plan =
    let here = leading swapping swapping_fits (first swapping) (0 ∷ []) refl in
    let there = leading swapping swapping_fits (step swapping 0 (first swapping)) [] refl in
    with_plan swapping 10000 (omega arith) refl refl refl here.0 here.1 there.0 there.1 (λ e. false≢true (sym (ap (λ (s : FactSet). has s.hold 0) e))) refl

abbrev a : Step
a = record { head = codes "a"; objects = [] }

abbrev the_plan : Outcome
the_plan = solves None (a ∷ []) (a ∷ [])

ends_with_plan : Ends (front []) (before exchange_text from_p_to_q_text) (after exchange_text from_p_to_q_text (codes "(a)\n")) status.Done
ends_with_plan = ends (front []) 10000 is_classical_call exchange_text from_p_to_q_text the_plan refl (comes_to exchange_text from_p_to_q_text exchange_tree from_p_to_q_tree trees is_classical 10000 (Plan (0 ∷ []) 1) the_plan found_plan (a ∷ [], refl, refl))

is_solved : IsSolvedClassical (example_holding exchange_text from_p_to_q_text) (solving 10000) (before exchange_text from_p_to_q_text) (after exchange_text from_p_to_q_text (codes "(a)\n"))
is_solved = classical_is_a_plan (front []) _ _ status.Done ends_with_plan (example_holding exchange_text from_p_to_q_text) (solving 10000) refl is_classical_call refl

-- ---- from p to both: there is no plan

abbrev keeping : Task
keeping = task_of exchange_tree to_both_tree

keeping_fits : IsFit keeping
keeping_fits = classical_task_fits exchange_tree to_both_tree both_classical

-- by rules both are reached, as if p didn't go
both_cost : Costs (rules_of keeping) (has (first keeping).hold) (goal_of keeping) 1
both_cost = given 0 (1 ∷ []) 1 refl (by_rule (record { fact = 1; needs = 0 ∷ [] }) 0 [] 0 (inl refl) (given 0 [] 0 refl none) none)

-- but once it went, no rule adds it
p_lost : (n : ℕ) → Costs (rules_of keeping) (has (step keeping 0 (first keeping)).hold) (goal_of keeping) n → ⊥
p_lost n costs = unreached (rules_of keeping) (has (step keeping 0 (first keeping)).hold) 0 refl no_rule (1 ∷ []) (goal_of keeping) n costs refl
  where
    no_rule : (r : Rule) → Member (rules_of keeping) r → r.fact ≡ 0 → ⊥
    no_rule r (inl m) is = let e : 1 ≡ 0 = ap (λ (x : Rule). x.fact) m ∙ is in omega (arith, e)
    no_rule r (inr never) is = absurd never

found_none : Finds keeping 10000 NoPlan
found_none = let here = reaching keeping keeping_fits (first keeping) 1 both_cost in without_plan keeping 10000 (omega arith) refl refl refl here.0 here.1 p_lost

ends_with_none : Ends (front []) (before exchange_text to_both) (after exchange_text to_both no_plan_line) status.Negative
ends_with_none = ends (front []) 10000 is_classical_call exchange_text to_both (denies no_plan_line) refl (comes_to exchange_text to_both exchange_tree to_both_tree both_trees both_classical 10000 NoPlan (denies no_plan_line) found_none refl)

has_no_plan : HasNoClassicalPlan (example_holding exchange_text to_both) (solving 10000) (before exchange_text to_both) (after exchange_text to_both no_plan_line)
has_no_plan = no_classical_plan_is_true (front []) _ _ status.Negative ends_with_none (example_holding exchange_text to_both) (solving 10000) refl is_classical_call refl

-- ---- from nothing to q: one state may be expanded, and another waits

abbrev turning : Task
turning = task_of chain_tree to_q_tree

turning_fits : IsFit turning
turning_fits = classical_task_fits chain_tree to_q_tree chain_classical

found_more : Finds turning 1 (Spent 1)
found_more =
    let here = leading turning turning_fits (first turning) (0 ∷ 0 ∷ []) refl in
    let there = leading turning turning_fits (step turning 0 (first turning)) (0 ∷ []) refl in
    spent turning 1 (omega arith) refl refl refl here.0 here.1 there.0 there.1 (λ e. false≢true (ap (λ (s : FactSet). has s.hold 0) e)) refl refl

ends_spent : Ends with_budget (before chain to_q) (after chain to_q (spends 1).text) status.Spent
ends_spent = ends with_budget 1 is_with_budget chain to_q (spends 1) refl (comes_to chain to_q chain_tree to_q_tree chain_trees chain_classical 1 (Spent 1) (spends 1) found_more refl)

is_spent : IsSpentClassical (example_holding chain to_q) (solving 1) (before chain to_q) (after chain to_q (spends 1).text)
is_spent = classical_spent_is_true with_budget _ _ status.Spent ends_spent (example_holding chain to_q) (solving 1) refl is_with_budget refl
