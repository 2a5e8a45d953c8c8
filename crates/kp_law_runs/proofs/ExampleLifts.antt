-- A translation that told `complete`, and a plan file held beside its files: the premises of what is said of such lifts are met, from the bytes on.
use Rattle.std.proofs.Common.{◌≡◌, ◌≢◌, ◌≤◌, ℕ, zero, suc, true, false, List, [], ◌∷◌, length, take, Some, map, codes, inl, inr, refl, sym, ap, subst, ◌∙◌, arith}
use Rattle.std.specs.FinMap.{get, insert}
use Rattle.std.proofs.lemmas.Bool.{false≢true}
use Rattle.kp_base.proofs.Lists.{same-refl}
use Rattle.kp_base.specs.declared.limits.Mode.TheVariants as modes
use Rattle.kp_base.specs.declared.ground.TagTable.{TagTable}
use Rattle.kp_base.specs.declared.ground.Initial.{Initial}
use Rattle.kp_base.specs.declared.lit.Lit.{Lit}
use Rattle.kp_base.specs.Planning.{Member, positive, IsAscending, is_model, IsClashFree, IsNeverOver}
use Rattle.kp_primes.specs.Included.{all_included}
use Rattle.kp_primes.proofs.Public.{counted_is_never_over}
use Rattle.kp_law_tagged_machine.proofs.Public.{swap_is_clash_free}
use Rattle.kp_lex.specs.Bytes.{class_of}
use Rattle.kp_lex.specs.Scanning.{cut_from}
use Rattle.kp_tree_grammar.specs.Symbols.{symbol_of}
use Rattle.kp_tree_grammar.specs.Parsing.{some_at, next_at}
use Rattle.kp_tree_grammar.specs.declared.tree.Word.{Word}
use Rattle.kp_tree_grammar.proofs.Public.{tokens_of_text, reads_by_computing, exchange_text, exchange_tree, from_p_to_q_text, from_p_to_q_tree}
use Rattle.kp_names_semantics.specs.Problems.{same, numbered_problem, Step, HasProblem}
use Rattle.kp_names_semantics.specs.Plans.{IsPlan}
use Rattle.kp_plans.specs.Grammar.{plan}
use Rattle.kp_plans.specs.PlanFiles.{step_of, IsPlanFile}
use Rattle.kp_law_translation.specs.OfTrees.{ground_of, initial_of}
use Rattle.kp_law_translation.specs.Tables.{empty_tag}
use Rattle.kp_law_translation.specs.Written.{translation_of}
use Rattle.kp_outside.specs.Outside.{FileMap}
use Rattle.kp_run_outcome.specs.declared.outcome.Outcome.{Outcome}
use Rattle.kp_run_outcome.specs.declared.status.Status.TheVariants as status
use Rattle.kp_run_outcome.specs.Ends.{Outside, whole}
use Rattle.kp_words.specs.Asked.{of_mode, Asked}
use Rattle.kp_words.specs.Owned.{bare}
use Rattle.kp_words.specs.declared.verb.Verb.TheVariants as verbs
use Rattle.kp_run_prepare.proofs.Public.{problem_of_trees}
use Rattle.kp_run_prepare.specs.Prepared.{IsStarted, later}
use Rattle.kp_run_inputs.specs.SourceTables.{by_mode, with_table}
use Rattle.kp_run_inputs.specs.Tasks.{with_task}
use Rattle.kp_run.specs.Translate.{translates, TranslatesTexts}
use Rattle.kp_run.specs.Ends.{Ends, came}
use Rattle.kp_run.specs.Completeness.{RanComplete, one_mode, IsOfTheSame, HoldsPlan}
use Rattle.kp_run_inputs.proofs.Public.{empty_tags_fit, empty_tag_made, nothing_uncovered}
use Rattle.kp_run.proofs.Public.{complete_is_told, got_after_insert, got_beside_insert}
use Rattle.kp_law_runs.proofs.ClashFree.{clash_free_with_table, two_atoms as example_two_atoms}
use Rattle.kp_law_runs.proofs.ExampleOutcomes.{with_limit as example_with_limit, limited as example_limited, is_limited as example_is_limited, holding as example_holding, due_with as example_due_with, is_small as example_is_small, only_p, has_state as example_has_state, closed_q as example_closed_q, unconditional as example_unconditional}
use Rattle.kp_run.specs.Solved.{GoesOn}
use Rattle.kp_law_runs.specs.Commands.{HasLift}
use Rattle.kp_law_runs.proofs.ExampleFiles.{trees}

-- ---- a translation with a limit of one prime implicate

abbrev from_p : Initial
from_p = initial_of exchange_tree from_p_to_q_tree

only_p_is : is_model from_p only_p ≡ true
unfolding only_p
only_p_is = refl

-- the one clause is in order, and the only prime implicate
one_prime : IsNeverOver from_p 1
one_prime = counted_is_never_over from_p 1 (all_included [] (take (length from_p.clauses) from_p.clauses)) (record { so_far = refl; sets = sets; within_limit = λ j le. at j })
  where
    sets : (c : List Lit) → Member ((positive 0 ∷ []) ∷ []) c → IsAscending c
    sets c (inl e) = subst IsAscending e tt
    sets c (inr none) = absurd none

    at : (j : ℕ) → length (all_included [] (take j ((positive 0 ∷ []) ∷ []))) ≤ 1
    at zero = omega arith
    at (suc zero) = omega arith
    at (suc (suc j)) = omega arith

started : IsStarted 1 exchange_tree from_p_to_q_tree
started = record {
  small = example_is_small (numbered_problem exchange_tree from_p_to_q_tree) refl refl refl refl;
  counted = one_prime;
  initial = example_has_state exchange_tree from_p_to_q_tree trees.no_fault only_p only_p_is;
}

no_clash : IsClashFree (ground_of exchange_tree from_p_to_q_tree) from_p
no_clash = clash_free_with_table _ example_two_atoms from_p (swap_is_clash_free from_p (example_closed_q from_p refl))

abbrev table : TagTable
table = empty_tag exchange_tree from_p_to_q_tree

abbrev outcome : Outcome
outcome = translates example_limited (ground_of exchange_tree from_p_to_q_tree) table []

is_done : TranslatesTexts example_limited exchange_text from_p_to_q_text [] outcome
is_done = later exchange_tree from_p_to_q_tree trees (record { started = started; clash_free = no_clash })
    (with_table table (by_mode modes.K0 table (empty_tag_made exchange_tree from_p_to_q_tree)) (with_task (empty_tags_fit exchange_tree from_p_to_q_tree started.small) (record { uncovered = []; are = nothing_uncovered (ground_of exchange_tree from_p_to_q_tree) from_p (example_unconditional from_p_to_q_tree refl) table; outcome = refl })))

abbrev before : FileMap
before = example_holding exchange_text from_p_to_q_text

abbrev after : FileMap
after = insert (insert before (codes "od") (translation_of exchange_tree from_p_to_q_tree table).domain) (codes "op") (translation_of exchange_tree from_p_to_q_tree table).problem

abbrev before_it : Outside
before_it = record { held = Some before; told = Some []; get_faults = λ q. 0; put_faults = λ q. 0; write_faults = 0 }

abbrev after_it : Outside
after_it = record { held = Some after; told = Some outcome.text; get_faults = λ q. 0; put_faults = λ q. 0; write_faults = 0 }

ends : Ends example_with_limit before_it after_it status.Done
ends = came outcome (example_due_with example_with_limit example_limited example_is_limited refl refl refl exchange_text from_p_to_q_text outcome is_done) (whole refl (record { gets = λ q. refl; puts = λ q. refl; writes = refl }) refl refl)

-- it told `complete`
ran : RanComplete Ends example_with_limit example_limited before after
ran = record { old = before_it; new = after_it; earlier = []; text = outcome.text; is_translate = example_is_limited; ended = ends; held_before = refl; held_after = refl; told_before = refl; told_after = refl; complete = complete_is_told (ground_of exchange_tree from_p_to_q_tree) table }

-- ---- a lift of the same files, of which the domain is a copy under another name

abbrev command : Asked
command = record (bare verbs.Lift) { domain = codes "e"; problem = codes "p"; plan = codes "t"; mode = modes.K0; implicates = 1 }

abbrev pub plan_file : List ℕ
plan_file = codes "(a)\n"

abbrev now : FileMap
now = insert (insert before (codes "e") exchange_text) (codes "t") plan_file

apart : (x y : List ℕ) → same x y ≡ false → x ≢ y
apart x y h e = false≢true (sym h ∙ (sym (ap (same x) e) ∙ same-refl x))

first_held : get before (codes "d") ≡ Some exchange_text
first_held = got_beside_insert _ (codes "d") (codes "p") from_p_to_q_text (apart (codes "d") (codes "p") refl) ∙ got_after_insert _ (codes "d") exchange_text

domain_held : get now (codes "e") ≡ get before (codes "d")
domain_held = got_beside_insert (insert before (codes "e") exchange_text) (codes "e") (codes "t") plan_file (apart (codes "e") (codes "t") refl) ∙ got_after_insert before (codes "e") exchange_text ∙ sym first_held

problem_held : get now (codes "p") ≡ get before (codes "p")
problem_held =
    got_beside_insert (insert before (codes "e") exchange_text) (codes "p") (codes "t") plan_file (apart (codes "p") (codes "t") refl)
    ∙ got_beside_insert before (codes "p") (codes "e") exchange_text (apart (codes "p") (codes "e") refl)

is_same : IsOfTheSame example_limited before command now
is_same = record { domain = sym domain_held; problem = sym problem_held; source = one_mode modes.K0; implicates = omega arith }

-- ---- its plan file

abbrev pub a : Step
a = record { head = codes "a"; objects = [] }

abbrev pub plan_words : List (Word × List Word)
plan_words = (record { text = codes "a"; byte = 1 }, []) ∷ []

pub reads : IsPlanFile plan_file (map (step_of plan_file) plan_words)
unfolding cut_from class_of symbol_of some_at next_at
reads = record { tree = plan_words; are = refl; reads = reads_by_computing plan plan_file (tokens_of_text plan_file) plan_words refl refl }

exchange_problem : HasProblem exchange_text from_p_to_q_text
exchange_problem = problem_of_trees exchange_text from_p_to_q_text exchange_tree from_p_to_q_tree trees

pub is_plan : IsPlan exchange_text from_p_to_q_text (a ∷ [])
unfolding exchange_problem
is_plan = record { has = exchange_problem; solves = record { instances = refl; reaches = λ s i. i.items } }

second_held : get before (codes "p") ≡ Some from_p_to_q_text
second_held = got_after_insert _ (codes "p") from_p_to_q_text

holds : HoldsPlan now command (a ∷ [])
holds = record {
  domain = exchange_text;
  problem = from_p_to_q_text;
  text = plan_file;
  steps = map (step_of plan_file) plan_words;
  domain_held = domain_held ∙ first_held;
  problem_held = problem_held ∙ second_held;
  plan_held = got_after_insert (insert before (codes "e") exchange_text) (codes "t") plan_file;
  short = omega arith;
  reads = reads;
  names_are = refl;
  is_plan = is_plan;
}

-- ---- the premises of what a run of a lift comes to

goes_on : GoesOn now (codes "e") (codes "p") 1 exchange_tree from_p_to_q_tree
goes_on = record { domain = exchange_text; problem = from_p_to_q_text; domain_held = domain_held ∙ first_held; problem_held = problem_held ∙ second_held; trees = trees; prepared = record { started = started; clash_free = no_clash } }

has_lift : HasLift now (of_mode modes.K0) (codes "t") exchange_tree from_p_to_q_tree table (0 ∷ [])
has_lift = record {
  merges = [];
  text = plan_file;
  steps = map (step_of plan_file) plan_words;
  merges_held = refl;
  plan_held = got_after_insert (insert before (codes "e") exchange_text) (codes "t") plan_file;
  has_table = by_mode modes.K0 table (empty_tag_made exchange_tree from_p_to_q_tree);
  fits = empty_tags_fit exchange_tree from_p_to_q_tree started.small;
  has_actions = record { short = omega arith; reads = reads; known = refl };
}
