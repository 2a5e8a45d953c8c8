-- Two trees that are classical, with a plan; two whose facts contradict each other, and two with a `oneof`.
use Rattle.std.proofs.Common.{◌≡◌, ◌||◌, ◌&&◌, ℕ, Bool, true, false, not, List, [], ◌∷◌, Some, codes, length, nat_eq, refl, arith}
use Rattle.std.proofs.lemmas.Bool.{false≢true}
use Rattle.kp_base.specs.Entailed.{HasNoModel}
use Rattle.kp_base.specs.declared.refused.Refused.TheVariants as refusals
use Rattle.kp_base.specs.Steps.{State, is_model}
use Rattle.kp_tree_grammar.specs.declared.tree.Word.{Word}
use Rattle.kp_tree_grammar.specs.Trees.{Cond, Item, Problem, no_item, more_items}
use Rattle.kp_tree_grammar.proofs.Public.{example_word_at, example_atom_at, exchange_tree, from_p_to_q_tree}
use Rattle.kp_names_semantics.specs.Faults.{HasNoFault}
use Rattle.kp_names_semantics.specs.Numbered.{Lifted}
use Rattle.kp_names_semantics.specs.Numbering.{numbered_problem}
use Rattle.kp_names.specs.Resolved.{first_unsure}
use Rattle.kp_ground_semantics.specs.Ground.{kept_instances, ground_atoms}
use Rattle.kp_ground_semantics.specs.Ground as by_number
use Rattle.kp_ground_semantics.specs.Weights.{binding_count, total_weight}
use Rattle.kp_ground.specs.Grounded.{IsGrounded}
use Rattle.kp_classic.specs.Steps.{start, succeeds}
use Rattle.kp_law_translation.specs.OfTrees.{initial_of}
use Rattle.kp_law_translation.proofs.Public.{initial_states_are_models}
use Rattle.kp_run_classical.specs.Classical.{classical, IsClassicalProblem, RefusesClassical, no_initial_state, task_of}
use Rattle.kp_run_classical.specs.Laws.{Succeeds, HaveNames}

is_small : (l : Lifted) → binding_count l ≡ 1 → length (kept_instances l) ≡ 1 → total_weight l ≡ 3 → length (ground_atoms l) ≡ 2 → IsGrounded l classical (by_number.ground_of l)
is_small l b k w a = record { counts = record { bindings = omega (arith, b); actions = omega (arith, k); weight = omega (arith, w) }; atoms = omega (arith, a); ground = refl }

-- ---- one action that exchanges p for q

no_fault : HasNoFault exchange_tree from_p_to_q_tree
no_fault = record { domain = refl; problem = refl }

unfoldable only_p : State
only_p n = nat_eq n 0

only_p_is : is_model (initial_of exchange_tree from_p_to_q_tree) only_p ≡ true
unfolding only_p
only_p_is = refl

is_classical : IsClassicalProblem exchange_tree from_p_to_q_tree
is_classical = record {
  certain = refl;
  small = is_small (numbered_problem exchange_tree from_p_to_q_tree) refl refl refl refl;
  initial = (initial_states_are_models exchange_tree from_p_to_q_tree no_fault).1 (record { state = only_p; model = only_p_is; all_true = refl });
}

-- the action reaches q, and has its name
it_succeeds : Succeeds exchange_tree from_p_to_q_tree (0 ∷ [])
it_succeeds = refl

its_name : HaveNames exchange_tree from_p_to_q_tree (0 ∷ []) (record { head = codes "a"; objects = [] } ∷ [])
its_name = refl

-- nothing to do doesn't reach q, nor may the action be taken twice
none_fails : succeeds (task_of exchange_tree from_p_to_q_tree) (start (task_of exchange_tree from_p_to_q_tree)) [] ≡ false
none_fails = refl

two_fail : succeeds (task_of exchange_tree from_p_to_q_tree) (start (task_of exchange_tree from_p_to_q_tree)) (0 ∷ 0 ∷ []) ≡ false
two_fail = refl

-- ---- p is both stated and denied

abbrev both_tree : Problem Word
both_tree = record { objects = []; init = Item.fact true (example_atom_at (codes "p") 40) ∷ Item.fact false (example_atom_at (codes "p") 49) ∷ []; goal = Cond.atom true (example_atom_at (codes "q") 62) }

both_named : HasNoFault exchange_tree both_tree
both_named = record { domain = refl; problem = refl }

no_model : HasNoModel (initial_of exchange_tree both_tree)
no_model some = never (some.state 0) some.model
  where
    never : (b : Bool) → ((((b || false) && (((not b) || false) && true)) && (not (some.state 1) && true)) ≡ true) → ⊥
    never true h = false≢true h
    never false h = false≢true h

refused : (text : List ℕ) → RefusesClassical text exchange_tree both_tree refusals.NoInitialState
refused text = no_initial_state refl (is_small (numbered_problem exchange_tree both_tree) refl refl refl refl) (λ has. no_model ((initial_states_are_models exchange_tree both_tree both_named).0 has))

-- ---- a `oneof` within an `and`

one_is_open : first_unsure (Item.fact true (example_atom_at (codes "p") 40) ∷ Item.items (more_items (Item.one_of (example_word_at (codes "oneof") 50) []) no_item) ∷ []) ≡ Some (example_word_at (codes "oneof") 50)
one_is_open = refl
