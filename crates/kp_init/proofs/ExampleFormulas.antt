-- Initial formulas and closures, computed from texts; the laws' premises can be met.
use Rattle.std.proofs.Common.{◌≡◌, ◌<◌, ℕ, Bool, true, false, List, [], ◌∷◌, Some, refl, sym, subst, map, nat_eq, codes}
use Rattle.std.proofs.lemmas.Bool.{false≢true}
use Rattle.kp_base.specs.declared.lit.AtomId.{AtomId}
use Rattle.kp_base.specs.declared.ground.Initial.{Initial}
use Rattle.kp_base.specs.Planning.{positive, negative, State, is_model, succeeds, IsGroundPlan, action_name, closure, IsAscendingClosure, IsOfAtoms}
use Rattle.kp_lex.specs.Bytes.{class_of}
use Rattle.kp_lex.specs.Scanning.{cut_from}
use Rattle.kp_tree_grammar.specs.Symbols.{symbol_of}
use Rattle.kp_tree_grammar.specs.Parsing.{some_at, next_at}
use Rattle.kp_names_semantics.specs.Lifted as lifted
use Rattle.kp_names_semantics.specs.Plans as texts
use Rattle.kp_names_semantics.specs.Plans.{HasProblem, Solves}
use Rattle.kp_names_semantics.proofs.Public.{domain_of_text, problem_of_text, computes_a_problem, moves_domain, from_a_to_b_problem, move_step, cells_domain, one_cell_problem, moves_by_number, moves_are_numbered}
use Rattle.kp_tree_grammar.proofs.Public.{exchange_text, from_p_to_q_text}
pub use Rattle.kp_names_semantics.proofs.Public.{moves_have_no_fault as no_fault, moves_goal_is_plain as plain}
use Rattle.kp_ground_semantics.specs.Ground.{ground_atoms, ground_of, seen_on}
use Rattle.kp_ground_semantics.proofs.Public.{atoms_are_numbered, ground_moves, numbered_texts as by_number, roads_domain, three_towns_problem}
use Rattle.kp_init.specs.Initial.{initial_of}
use Rattle.kp_init.specs.ByName.{HasNamedAtoms}
use Rattle.kp_init.specs.Laws.{AreModels, IsNamedRun}
use Rattle.kp_init.proofs.Models.{initial_exact}
use Rattle.kp_init.proofs.Runs.{initial_is_over, plan_by_name, plan_of_texts}
use Rattle.kp_base.proofs.Closures.{closure_over_first_atoms}

abbrev atom : ℕ → AtomId
atom n = record { 0 = n }

-- ---- exactly one of three cells

abbrev formula_of_cells : Initial
formula_of_cells = record {
  clauses = (positive 0 ∷ positive 1 ∷ positive 2 ∷ []) ∷ (negative 0 ∷ negative 1 ∷ []) ∷ (negative 0 ∷ negative 2 ∷ []) ∷ (negative 1 ∷ negative 2 ∷ []) ∷ [];
  closed = [];
}

cells_at_first : initial_of (by_number cells_domain one_cell_problem) ≡ formula_of_cells
unfolding cut_from class_of symbol_of some_at next_at
cells_at_first = refl

-- the first cell is the only one
known_of_first : closure formula_of_cells 3 (positive 0 ∷ []) ≡ positive 0 ∷ negative 1 ∷ negative 2 ∷ []
known_of_first = refl

nothing_known : closure formula_of_cells 3 [] ≡ []
nothing_known = refl

known_of_none : closure formula_of_cells 3 (negative 0 ∷ negative 1 ∷ []) ≡ negative 0 ∷ negative 1 ∷ positive 2 ∷ []
known_of_none = refl

-- under a tag that no model meets, everything is known
torn : closure formula_of_cells 3 (positive 0 ∷ positive 1 ∷ []) ≡ positive 0 ∷ negative 0 ∷ positive 1 ∷ negative 1 ∷ positive 2 ∷ negative 2 ∷ []
torn = refl

cells_over : IsOfAtoms 3 formula_of_cells
cells_over = record { clauses = refl; closed = refl }

is_closure : IsAscendingClosure 3 formula_of_cells (positive 0 ∷ []) (positive 0 ∷ negative 1 ∷ negative 2 ∷ [])
is_closure = closure_over_first_atoms formula_of_cells 3 cells_over (positive 0 ∷ []) refl

-- the names of the cells tell them apart
cells_named : HasNamedAtoms (by_number cells_domain one_cell_problem)
unfolding cut_from class_of symbol_of some_at next_at
cells_named = record { predicates = refl; objects = refl; declared = refl }

-- ---- pairs in the order of the text, each clause ascending; a literal that is repeated counts once

abbrev backwards : List ℕ
backwards = codes "(define (problem c) (:domain cells) (:init (oneof (x3) (x1) (x3) (x2)) (or (x2) (not (x1)) (x2)) (not (x3))) (:goal (x1)))"

backwards_at_first : initial_of (by_number cells_domain backwards) ≡ record {
  clauses =
      (positive 0 ∷ positive 1 ∷ positive 2 ∷ []) ∷ (negative 0 ∷ negative 2 ∷ []) ∷ (negative 1 ∷ negative 2 ∷ []) ∷ (negative 0 ∷ negative 1 ∷ [])
      ∷ (negative 0 ∷ positive 1 ∷ [])
      ∷ (negative 2 ∷ [])
      ∷ [];
  closed = [];
}
unfolding cut_from class_of symbol_of some_at next_at
backwards_at_first = refl

-- no literal gives the empty clause, which no state meets
abbrev no_cell : List ℕ
no_cell = codes "(define (problem c) (:domain cells) (:init (oneof)) (:goal (x1)))"

no_cell_at_first : initial_of (by_number cells_domain no_cell) ≡ record { clauses = [] ∷ []; closed = atom 0 ∷ atom 1 ∷ atom 2 ∷ [] }
unfolding cut_from class_of symbol_of some_at next_at
no_cell_at_first = refl

-- ---- a static atom has a clause only where the goal names it; what is unknown is neither stated nor closed

roads_at_first : initial_of (by_number roads_domain three_towns_problem) ≡ record { clauses = (positive 0 ∷ []) ∷ (positive 1 ∷ []) ∷ []; closed = atom 2 ∷ atom 3 ∷ atom 4 ∷ atom 5 ∷ atom 6 ∷ [] }
unfolding cut_from class_of symbol_of some_at next_at
roads_at_first = refl

-- ---- one fact

exchange_at_first : initial_of (by_number exchange_text from_p_to_q_text) ≡ record { clauses = (positive 0 ∷ []) ∷ []; closed = atom 1 ∷ [] }
unfolding cut_from class_of symbol_of some_at next_at
exchange_at_first = refl

-- ---- plans by name

abbrev formula_of_moves : Initial
formula_of_moves = record { clauses = (positive 0 ∷ []) ∷ []; closed = atom 1 ∷ [] }

moves_named : HasNamedAtoms moves_by_number
moves_named = record { predicates = refl; objects = refl; declared = refl }

moves_at_first : initial_of moves_by_number ≡ formula_of_moves
moves_at_first = refl

known_at_first : closure formula_of_moves 2 [] ≡ positive 0 ∷ negative 1 ∷ []
known_at_first = refl

moves_over : IsOfAtoms 2 (initial_of moves_by_number)
moves_over = initial_is_over moves_by_number (ground_atoms moves_by_number) (atoms_are_numbered moves_by_number).numbering

-- a model
abbrev first : State
first n = nat_eq n 0

is_first : is_model formula_of_moves first ≡ true
is_first = refl

-- it is an initial state, seen on the ground atoms
first_state : AreModels moves_by_number (ground_atoms moves_by_number)
first_state = initial_exact moves_by_number (ground_atoms moves_by_number) (atoms_are_numbered moves_by_number).numbering

an_initial_state : (s : lifted.State) × lifted.IsInitial moves_by_number s × ((n : ℕ) → n < 2 → seen_on (ground_atoms moves_by_number) s n ≡ first n)
an_initial_state = first_state.state first is_first

-- the first two actions, one after the other, are a plan
two_actions : IsGroundPlan ground_moves formula_of_moves (0 ∷ 1 ∷ [])
two_actions s = pick (s 0) refl
  where
    pick : (t : Bool) → s 0 ≡ t → is_model formula_of_moves s ≡ true → succeeds ground_moves s (0 ∷ 1 ∷ []) ≡ true
    pick true e model = rw e refl
    pick false e model = absurd (false≢true (rw e at model))

a_run : IsNamedRun (domain_of_text moves_domain) (problem_of_text from_a_to_b_problem) (move_step (codes "a") (codes "a") ∷ move_step (codes "a") (codes "b") ∷ []) (0 ∷ 1 ∷ [])
a_run = record {
  names = subst (λ l. map (action_name (ground_of l)) (0 ∷ 1 ∷ []) ≡ map Some (move_step (codes "a") (codes "a") ∷ move_step (codes "a") (codes "b") ∷ [])) (sym moves_are_numbered) refl;
  plan = subst (λ l. IsGroundPlan (ground_of l) (initial_of l) (0 ∷ 1 ∷ [])) (sym moves_are_numbered) two_actions;
}

-- so their names are a plan of the two trees
a_plan : Solves (domain_of_text moves_domain) (problem_of_text from_a_to_b_problem) (move_step (codes "a") (codes "a") ∷ move_step (codes "a") (codes "b") ∷ [])
a_plan = (plan_by_name (domain_of_text moves_domain) (problem_of_text from_a_to_b_problem) no_fault plain first (subst (λ l. is_model (initial_of l) first ≡ true) (sym moves_are_numbered) is_first) (move_step (codes "a") (codes "a") ∷ move_step (codes "a") (codes "b") ∷ [])).1 (0 ∷ 1 ∷ [], a_run)

-- and of the two texts
moves_problem : HasProblem moves_domain from_a_to_b_problem
unfolding cut_from class_of symbol_of some_at next_at
moves_problem = computes_a_problem moves_domain from_a_to_b_problem (record { domain_cut = refl; problem_cut = refl; domain_read = refl; problem_read = refl; domain_faults = refl; problem_faults = refl })

a_plan_of_texts : texts.IsPlan moves_domain from_a_to_b_problem (move_step (codes "a") (codes "a") ∷ move_step (codes "a") (codes "b") ∷ [])
unfolding moves_problem
a_plan_of_texts = (plan_of_texts moves_domain from_a_to_b_problem moves_problem first (subst (λ l. is_model (initial_of l) first ≡ true) (sym moves_are_numbered) is_first) (move_step (codes "a") (codes "a") ∷ move_step (codes "a") (codes "b") ∷ [])).1 (0 ∷ 1 ∷ [], a_run)
