-- Files with the one outcome that is due: each kind of refusal, a translation of what is half known, and a clash.
use Rattle.std.proofs.Common.{[], ◌≡◌, ◌<◌, ◌≤◌, ℕ, zero, suc, Bool, true, false, not, ◌&&◌, ◌||◌, List, ◌∷◌, length, take, Some, codes, inl, inr, refl, sym, ap, subst, ◌∙◌, arith}
use Rattle.std.specs.Fmt.{digits}
use Rattle.std.proofs.lemmas.Bool.{false≢true, false_from_ne_true}
use Rattle.kp_base.specs.declared.ground.Effect.{Effect}
use Rattle.kp_base.specs.declared.ground.Action.{Action}
use Rattle.kp_base.specs.declared.refused.ClashAt.{ClashAt}
use Rattle.kp_base.specs.declared.refused.Part.TheVariants as parts
use Rattle.kp_base.specs.declared.refused.Refused.{Refused}
use Rattle.kp_base.specs.declared.refused.Refused.TheVariants as refusals
use Rattle.kp_base.specs.declared.refused.Stop.TheVariants as stops
use Rattle.kp_base.specs.declared.ground.Initial.{Initial}
use Rattle.kp_base.specs.declared.ground.TagTable.{TagTable}
use Rattle.kp_base.specs.declared.lit.Lit.{Lit}
use Rattle.kp_base.specs.Planning.{Member, positive, negative, IsAscending, State as NumberedState, is_model, ArePairs, Deletes, IsExclusive, ClashesFirst, IsLeastOver, IsNeverOver, HasNoModel}
use Rattle.kp_primes.specs.Included.{all_included, passed_at}
use Rattle.kp_primes.specs.Answers.{RefusesPrimes, too_many}
use Rattle.kp_primes.proofs.Public.{counted_is_never_over, prefix_stops_the_build}
use Rattle.kp_clash.proofs.Public.{first_found_is_first_clash}
use Rattle.kp_law_tagged_machine.proofs.Public.{swap_is_clash_free}
use Rattle.kp_law_runs.proofs.ClashFree.{clash_free_with_table, two_atoms}
use Rattle.kp_lex.specs.Bytes.{class_of}
use Rattle.kp_lex.specs.Cutting.{at_end}
use Rattle.kp_lex.specs.Scanning.{cut_from}
use Rattle.kp_tree_grammar.specs.Language.{Cond, Eff, Item, Schema, Domain, Problem, conds_of, effs_of, stop, within_form, s_unopened}
use Rattle.kp_tree_grammar.specs.Symbols.{symbol_of}
use Rattle.kp_tree_grammar.specs.Parsing.{some_at, next_at}
use Rattle.kp_tree_grammar.specs.declared.tree.Word.{Word}
use Rattle.kp_tree_grammar.specs.Grammar as grammar
use Rattle.kp_tree_grammar.proofs.Public.{example_word_at, example_atom_at, example_pred_at, exchange_text, exchange_tree, tokens_of_text}
use Rattle.kp_names_semantics.specs.Faults as faults
use Rattle.kp_names_semantics.specs.Names.{same}
use Rattle.kp_names_semantics.specs.Numbering.{numbered_problem}
use Rattle.kp_tree.specs.Files.{HasTree, offending}
use Rattle.kp_tree.specs.Files as files
use Rattle.kp_names.specs.Resolved.{in_problem}
use Rattle.kp_names_semantics.specs.Initial.{HasInitialState}
use Rattle.kp_law_translation.specs.OfTrees.{ground_of, initial_of}
use Rattle.kp_law_translation.specs.Tables.{empty_tag}
use Rattle.kp_law_translation.proofs.Public.{initial_states_are_models}
use Rattle.kp_run_messages.specs.Refusals.{nothing, refusal_text}
use Rattle.kp_run_outcome.specs.declared.outcome.Outcome.{Outcome}
use Rattle.kp_run_outcome.specs.declared.status.Status.TheVariants as status
use Rattle.kp_run_prepare.specs.Texts.{HaveTrees, of_problem, of_names}
use Rattle.kp_run_prepare.specs.Refusing.{named_in}
use Rattle.kp_run_prepare.specs.Prepared.{IsStarted, RefusesTrees, implicates_over, no_initial_state, clash, by_texts, by_trees, early, later}
use Rattle.kp_base.specs.declared.limits.Mode.TheVariants as modes
use Rattle.kp_run_inputs.specs.SourceTables.{by_mode, with_table}
use Rattle.kp_run_inputs.specs.Tasks.{with_task}
use Rattle.kp_run.specs.Translate.{translates, TranslatesTexts}
use Rattle.kp_run.specs.Outcomes.{IsDue}
use Rattle.kp_run_inputs.proofs.Public.{empty_tags_fit, empty_tag_made, nothing_uncovered}
use Rattle.kp_law_runs.proofs.Computed.{reads_file}
use Rattle.kp_law_runs.proofs.ExampleOutcomes.{closed_q, command, domain_reads, due_with, few_primes, has_state, holding, is_limited, is_small, limited, on_files, only_p, unconditional, with_limit, words}

-- ---- refusals: no initial state

-- p is both stated and denied
abbrev both : List ℕ
both = codes "(define (problem e) (:domain d) (:init (p) (not (p))) (:goal (q)))\n"

abbrev both_tree : Problem Word
both_tree = record { objects = []; init = Item.fact true (example_atom_at (codes "p") 40) ∷ Item.fact false (example_atom_at (codes "p") 49) ∷ []; goal = Cond.atom true (example_atom_at (codes "q") 62) }

both_reads : HasTree grammar.problem both both_tree
unfolding cut_from class_of symbol_of some_at next_at
both_reads = reads_file grammar.problem both (tokens_of_text both) both_tree (omega arith) refl refl refl

both_trees : HaveTrees exchange_text both exchange_tree both_tree
both_trees = record { domain_reads = domain_reads; problem_reads = both_reads; no_fault = record { domain = refl; problem = refl } }

no_model : HasNoModel (initial_of exchange_tree both_tree)
no_model some = never (some.state 0) some.model
  where
    never : (b : Bool) → ((((b || false) && (((not b) || false) && true)) && (not (some.state 1) && true)) ≡ true) → ⊥
    never true h = false≢true h
    never false h = false≢true h

no_state : HasInitialState both_tree → ⊥
no_state has = no_model ((initial_states_are_models exchange_tree both_tree both_trees.no_fault).0 has)

-- p and its negation, in order
two_sets : (c : List Lit) → Member ((positive 0 ∷ []) ∷ (negative 0 ∷ []) ∷ []) c → IsAscending c
two_sets c m = elim m [
  | inl same ↦ subst IsAscending same tt
  | inr more ↦ elim more [ inl same ↦ subst IsAscending same tt | inr none ↦ absurd none ]
]

-- of none of them, of the first, and of both
both_few : IsNeverOver (initial_of exchange_tree both_tree) 20000
both_few = counted_is_never_over (initial_of exchange_tree both_tree) 20000 (all_included [] ((positive 0 ∷ []) ∷ (negative 0 ∷ []) ∷ [])) (record { so_far = refl; sets = two_sets; within_limit = λ j le. at j })
  where
    at : (j : ℕ) → length (all_included [] (take j ((positive 0 ∷ []) ∷ (negative 0 ∷ []) ∷ []))) ≤ 20000
    at zero = omega arith
    at (suc zero) = omega arith
    at (suc (suc zero)) = omega arith
    at (suc (suc (suc j))) = omega arith

without_state : RefusesTrees 20000 exchange_tree both_tree nothing refusals.NoInitialState
without_state = no_initial_state (is_small (numbered_problem exchange_tree both_tree) refl refl refl refl) both_few no_state

no_state_due : IsDue words (Some (holding exchange_text both)) (record { status = status.Refused refusals.NoInitialState; puts = []; text = codes "refused 12 NoInitialState\n" })
no_state_due = on_files exchange_text both _ (early (by_trees exchange_tree both_tree nothing refusals.NoInitialState both_trees without_state refl))

-- ---- refusals: a name

-- the goal is of no declared predicate
abbrev to_r : List ℕ
to_r = codes "(define (problem e) (:domain d)\n(:init) (:goal (r)))\n"

abbrev to_r_tree : Problem Word
to_r_tree = record { objects = []; init = []; goal = Cond.atom true (example_atom_at (codes "r") 48) }

to_r_reads : HasTree grammar.problem to_r to_r_tree
unfolding cut_from class_of symbol_of some_at next_at
to_r_reads = reads_file grammar.problem to_r (tokens_of_text to_r) to_r_tree (omega arith) refl refl refl

abbrev unknown_name : Refused
unknown_name = refusals.UnknownName (record { part = parts.Problem; line = 2; byte = 48 })

unknown_name_due : IsDue words (Some (holding exchange_text to_r)) (record { status = status.Refused unknown_name; puts = []; text = codes "refused 5 UnknownName\nat problem line 2 byte 48\n" })
unfolding digits
unknown_name_due = on_files exchange_text to_r _ (early (by_texts unknown_name (of_names exchange_tree to_r_tree unknown_name domain_reads to_r_reads (in_problem (faults.unknown_name 48) refl refl)) refl))

-- ---- refusals: an empty problem

abbrev at_once : Refused
at_once = refusals.Syntax (record { part = parts.Problem; line = 1; byte = 0 })

syntax_due : IsDue words (Some (holding exchange_text [])) (record { status = status.Refused at_once; puts = []; text = codes "refused 3 Syntax\nat problem line 1 byte 0\n" })
unfolding digits
syntax_due = on_files exchange_text [] _ (early (by_texts at_once (of_problem exchange_tree at_once domain_reads (files.stops [] (stop []) (omega arith) at_end (offending (stop []) (within_form (s_unopened refl)) (λ us e. absurd cc)))) refl))

-- ---- refusals: too many prime implicates

-- p and q are two
abbrev p_and_q : List ℕ
p_and_q = codes "(define (problem e) (:domain d) (:init (p) (q)) (:goal (q)))\n"

abbrev p_and_q_tree : Problem Word
p_and_q_tree = record { objects = []; init = Item.fact true (example_atom_at (codes "p") 40) ∷ Item.fact true (example_atom_at (codes "q") 44) ∷ []; goal = Cond.atom true (example_atom_at (codes "q") 56) }

p_and_q_reads : HasTree grammar.problem p_and_q p_and_q_tree
unfolding cut_from class_of symbol_of some_at next_at
p_and_q_reads = reads_file grammar.problem p_and_q (tokens_of_text p_and_q) p_and_q_tree (omega arith) refl refl refl

p_and_q_trees : HaveTrees exchange_text p_and_q exchange_tree p_and_q_tree
p_and_q_trees = record { domain_reads = domain_reads; problem_reads = p_and_q_reads; no_fault = record { domain = refl; problem = refl } }

units : (c : List Lit) → Member ((positive 0 ∷ []) ∷ (positive 1 ∷ []) ∷ []) c → IsAscending c
units c m = elim m [
  | inl same ↦ subst IsAscending same tt
  | inr more ↦ elim more [ inl same ↦ subst IsAscending same tt | inr none ↦ absurd none ]
]

second_is_over : IsLeastOver (initial_of exchange_tree p_and_q_tree) 1 2
second_is_over = go (prefix_stops_the_build (initial_of exchange_tree p_and_q_tree) 2 1 (stops.Refused (refusals.ImplicatesOver 2)) (passed_at 2 (record { there = omega arith; sets = units; over = omega arith; before = at })))
  where
    at : (j : ℕ) → j < 2 → length (all_included [] (take j ((positive 0 ∷ []) ∷ (positive 1 ∷ []) ∷ []))) ≤ 1
    at zero le = omega arith
    at (suc zero) le = omega arith
    at (suc (suc j)) le = absurd (omega arith)

    go : RefusesPrimes (initial_of exchange_tree p_and_q_tree) 1 (refusals.ImplicatesOver 2) → IsLeastOver (initial_of exchange_tree p_and_q_tree) 1 2
    go (too_many _ least) = least

over_due : IsDue with_limit (Some (holding exchange_text p_and_q)) (record { status = status.Refused (refusals.ImplicatesOver 2); puts = []; text = codes "refused 11 ImplicatesOver\nprefix 2\n" })
unfolding digits
over_due = due_with with_limit limited is_limited refl refl refl exchange_text p_and_q _ (early (by_trees exchange_tree p_and_q_tree nothing (refusals.ImplicatesOver 2) p_and_q_trees (implicates_over 2 (is_small (numbered_problem exchange_tree p_and_q_tree) refl refl refl refl) second_is_over) refl))

-- ---- an `unknown`

abbrev half_known : List ℕ
half_known = codes "(define (problem e) (:domain d) (:init (unknown (p))) (:goal (q)))\n"

abbrev half_known_tree : Problem Word
half_known_tree = record { objects = []; init = Item.unknown (example_word_at (codes "unknown") 40) (example_atom_at (codes "p") 49) ∷ []; goal = Cond.atom true (example_atom_at (codes "q") 62) }

half_known_reads : HasTree grammar.problem half_known half_known_tree
unfolding cut_from class_of symbol_of some_at next_at
half_known_reads = reads_file grammar.problem half_known (tokens_of_text half_known) half_known_tree (omega arith) refl refl refl

half_known_trees : HaveTrees exchange_text half_known exchange_tree half_known_tree
half_known_trees = record { domain_reads = domain_reads; problem_reads = half_known_reads; no_fault = record { domain = refl; problem = refl } }

half_known_few : IsNeverOver (initial_of exchange_tree half_known_tree) 20000
half_known_few = counted_is_never_over (initial_of exchange_tree half_known_tree) 20000 [] (record { so_far = refl; sets = λ c m. absurd m; within_limit = λ j le. at j })
  where
    at : (j : ℕ) → length (all_included [] (take j [])) ≤ 20000
    at zero = omega arith
    at (suc j) = omega arith

half_known_model : is_model (initial_of exchange_tree half_known_tree) only_p ≡ true
unfolding only_p
half_known_model = refl

half_known_started : IsStarted 20000 exchange_tree half_known_tree
half_known_started = record {
  small = is_small (numbered_problem exchange_tree half_known_tree) refl refl refl refl;
  counted = half_known_few;
  initial = has_state exchange_tree half_known_tree half_known_trees.no_fault only_p half_known_model;
}

abbrev half_known_table : TagTable
half_known_table = empty_tag exchange_tree half_known_tree

abbrev half_known_outcome : Outcome
half_known_outcome = translates command (ground_of exchange_tree half_known_tree) half_known_table []

half_known_done : TranslatesTexts command exchange_text half_known [] half_known_outcome
half_known_done = later exchange_tree half_known_tree half_known_trees (record { started = half_known_started; clash_free = clash_free_with_table _ two_atoms (initial_of exchange_tree half_known_tree) (swap_is_clash_free (initial_of exchange_tree half_known_tree) (closed_q (initial_of exchange_tree half_known_tree) refl)) })
    (with_table half_known_table (by_mode modes.K0 half_known_table (empty_tag_made exchange_tree half_known_tree)) (with_task (empty_tags_fit exchange_tree half_known_tree half_known_started.small) (record { uncovered = []; are = nothing_uncovered (ground_of exchange_tree half_known_tree) (initial_of exchange_tree half_known_tree) (unconditional half_known_tree refl) half_known_table; outcome = refl })))

half_known_due : IsDue words (Some (holding exchange_text half_known)) half_known_outcome
half_known_due = on_files exchange_text half_known _ half_known_done

-- it isn't known whether p holds, but no effect turns on it: the empty tag covers each target
half_known_printed : half_known_outcome.text ≡ codes "atoms 2\nactions 1\ntags 1\nmerges 0\nfacts 4\ncomplete\n"
unfolding digits
half_known_printed = refl

-- ---- a clash

-- q is added where p holds, and deleted anyway
abbrev clashing : List ℕ
clashing = codes "(define (domain d) (:predicates (p) (q)) (:action a :effect (and (when (p) (q)) (not (q)))))\n"

abbrev clashing_schema : Schema Word
clashing_schema = record {
  name = example_word_at (codes "a") 50;
  params = [];
  pre = Cond.all (conds_of []);
  effect = Eff.both (effs_of (Eff.when (Cond.atom true (example_atom_at (codes "p") 72)) (Eff.makes true (example_atom_at (codes "q") 76)) ∷ Eff.makes false (example_atom_at (codes "q") 86) ∷ []));
}

abbrev clashing_tree : Domain Word
clashing_tree = record { kinds = []; constants = []; predicates = example_pred_at (codes "p") 33 ∷ example_pred_at (codes "q") 37 ∷ []; schemas = clashing_schema ∷ [] }

clashing_reads : HasTree grammar.domain clashing clashing_tree
unfolding cut_from class_of symbol_of some_at next_at
clashing_reads = reads_file grammar.domain clashing (tokens_of_text clashing) clashing_tree (omega arith) refl refl refl

abbrev from_not_p : List ℕ
from_not_p = codes "(define (problem e) (:domain d) (:init (not (p))) (:goal (q)))\n"

abbrev from_not_p_tree : Problem Word
from_not_p_tree = record { objects = []; init = Item.fact false (example_atom_at (codes "p") 45) ∷ []; goal = Cond.atom true (example_atom_at (codes "q") 58) }

from_not_p_reads : HasTree grammar.problem from_not_p from_not_p_tree
unfolding cut_from class_of symbol_of some_at next_at
from_not_p_reads = reads_file grammar.problem from_not_p (tokens_of_text from_not_p) from_not_p_tree (omega arith) refl refl refl

clashing_trees : HaveTrees clashing from_not_p clashing_tree from_not_p_tree
clashing_trees = record { domain_reads = clashing_reads; problem_reads = from_not_p_reads; no_fault = record { domain = refl; problem = refl } }

no_atom : NumberedState
no_atom n = false

no_atom_is : is_model (initial_of clashing_tree from_not_p_tree) no_atom ≡ true
unfolding no_atom
no_atom_is = refl

clashing_started : IsStarted 20000 clashing_tree from_not_p_tree
clashing_started = record {
  small = is_small (numbered_problem clashing_tree from_not_p_tree) refl refl refl refl;
  counted = few_primes (initial_of clashing_tree from_not_p_tree) (negative 0) refl (omega arith);
  initial = has_state clashing_tree from_not_p_tree clashing_trees.no_fault no_atom no_atom_is;
}

-- the first effect of the only action adds q, and the second deletes it
abbrev of_q : ClashAt
of_q = record { action = 0; atom = record { 0 = 1 }; add = 0; delete = 1 }

-- an action adds q where p holds, and leaves p: no two atoms are exclusive
no_pair : (i : Initial) (p q : ℕ) → IsExclusive (ground_of clashing_tree from_not_p_tree) i 2 p q → ⊥
no_pair i p q x = no_delete deleted.delete deleted.of_action deleted.deletes
  where
    are : ArePairs 2 x.pairs
    are = x.inductive.are_pairs

    q_and_p : (p q : ℕ) → x.pairs p q ≡ true → x.pairs 1 0 ≡ true
    q_and_p zero zero h = absurd (are.different 0 0 h refl)
    q_and_p zero (suc zero) h = are.either_order 0 1 h
    q_and_p (suc zero) zero h = h
    q_and_p (suc zero) (suc zero) h = absurd (are.different 1 1 h refl)
    q_and_p (suc (suc p)) q h = absurd (let lt = are.of_atoms (suc (suc p)) q h in omega (arith, lt))
    q_and_p p (suc (suc q)) h = absurd (let lt = are.of_atoms (suc (suc q)) p (are.either_order p (suc (suc q)) h) in omega (arith, lt))

    action : Action
    action = record { name = record { head = codes "a"; objects = [] }; pre = []; effects = record { cond = positive 0 ∷ []; result = positive 1 } ∷ record { cond = []; result = negative 1 } ∷ [] }

    not_itself : x.pairs 0 0 ≡ false
    not_itself = false_from_ne_true (x.pairs 0 0) (λ h. are.different 0 0 h refl)

    deleted : Deletes action 0 (positive 0 ∷ positive 0 ∷ [])
    deleted = x.inductive.other_deleted 1 0 (q_and_p p q x.has_pair) action (record { cond = positive 0 ∷ []; result = positive 1 }) (inl refl) (inl refl) refl (rw not_itself refl)

    no_delete : (e : Effect) → Member action.effects e → e.result ≡ negative 0 → ⊥
    no_delete e (inl m) is = false≢true (sym (ap (λ (y : Effect). y.result.positive) m ∙ ap (λ (l : Lit). l.positive) is))
    no_delete e (inr (inl m)) is = let same : 1 ≡ 0 = ap (λ (y : Effect). y.result.atom.0) m ∙ ap (λ (l : Lit). l.atom.0) is in omega (arith, same)
    no_delete e (inr (inr m)) is = absurd m

first_clash : ClashesFirst (ground_of clashing_tree from_not_p_tree) (initial_of clashing_tree from_not_p_tree) of_q
first_clash = record {
  pairs = λ p q. false;
  exclusive = record { each = λ p q h. absurd (false≢true h); all = λ p q x. absurd (no_pair (initial_of clashing_tree from_not_p_tree) p q x) };
  first = first_found_is_first_clash (λ p q. false) (ground_of clashing_tree from_not_p_tree) (Some of_q) refl;
}

clashes : RefusesTrees 20000 clashing_tree from_not_p_tree (named_in (ground_of clashing_tree from_not_p_tree)) (refusals.Clash of_q)
clashes = clash of_q clashing_started first_clash

clash_printed : refusal_text (named_in (ground_of clashing_tree from_not_p_tree)) (refusals.Clash of_q) ≡ codes "refused 13 Clash\naction (a)\natom (q)\nadd (p)\ndelete\n"
clash_printed = refl

clash_due : IsDue words (Some (holding clashing from_not_p)) (record { status = status.Refused (refusals.Clash of_q); puts = []; text = codes "refused 13 Clash\naction (a)\natom (q)\nadd (p)\ndelete\n" })
clash_due = subst (λ text. IsDue words (Some (holding clashing from_not_p)) (record { status = status.Refused (refusals.Clash of_q); puts = []; text = text })) clash_printed (on_files clashing from_not_p _ (early (by_trees clashing_tree from_not_p_tree (named_in (ground_of clashing_tree from_not_p_tree)) (refusals.Clash of_q) clashing_trees clashes refl)))
