-- Three cells of which exactly one atom is true, and cells with a `oneof` of nothing: each premise of the laws on uncertain problems is met.
use Rattle.std.proofs.Common.{◌≡◌, ℕ, true, List, [], codes, refl, subst, nat_eq, length}
use Rattle.std.proofs.lemmas.Bool.{false≢true}
use Rattle.kp_base.specs.Steps.{State, is_model}
use Rattle.kp_base.specs.Entailed.{HasNoModel, IsClosure}
use Rattle.kp_lex.specs.Bytes.{class_of}
use Rattle.kp_lex.specs.Scanning.{cut_from}
use Rattle.kp_tree_grammar.specs.Symbols.{symbol_of}
use Rattle.kp_tree_grammar.specs.Parsing.{some_at, next_at}
use Rattle.kp_names_semantics.specs.Faults.{HasNoFault}
use Rattle.kp_names_semantics.proofs.Public.{domain_of_text, problem_of_text, cells_domain, one_cell_problem}
use Rattle.kp_base.proofs.Closures.{closure_over_first_atoms}
use Rattle.kp_law_translation.specs.OfTrees.{ground_of, initial_of, start_of}
use Rattle.kp_names_semantics.specs.Initial.{HasInitialState}
use Rattle.kp_law_translation.proofs.Starts.{states_are_models, formulas_over_atoms, closures_are_starts}

-- ---- a `oneof` of three

three_fault : HasNoFault (domain_of_text cells_domain) (problem_of_text one_cell_problem)
unfolding cut_from class_of symbol_of some_at next_at
three_fault = record { domain = refl; problem = refl }

-- the first cell
first : State
first n = nat_eq n 0

first_is_model : is_model (initial_of (domain_of_text cells_domain) (problem_of_text one_cell_problem)) first ≡ true
unfolding cut_from class_of symbol_of some_at next_at first
first_is_model = refl

has_state : HasInitialState (problem_of_text one_cell_problem)
has_state = (states_are_models (domain_of_text cells_domain) (problem_of_text one_cell_problem) three_fault).1 (record { state = first; model = first_is_model; all_true = refl })

-- nothing is known
nothing_known : start_of (domain_of_text cells_domain) (problem_of_text one_cell_problem) ≡ []
unfolding cut_from class_of symbol_of some_at next_at
nothing_known = refl

-- so nothing is a closure of the empty tag, and thus what is known
is_closure : IsClosure (length (ground_of (domain_of_text cells_domain) (problem_of_text one_cell_problem)).atoms) (initial_of (domain_of_text cells_domain) (problem_of_text one_cell_problem)) [] []
is_closure =
    let d = domain_of_text cells_domain in
    let p = problem_of_text one_cell_problem in
    subst (IsClosure (length (ground_of d p).atoms) (initial_of d p) []) nothing_known (closure_over_first_atoms (initial_of d p) (length (ground_of d p).atoms) (formulas_over_atoms d p) [] refl).closure

known_so : [] ≡ start_of (domain_of_text cells_domain) (problem_of_text one_cell_problem)
known_so = closures_are_starts (domain_of_text cells_domain) (problem_of_text one_cell_problem) [] is_closure tt

-- ---- a `oneof` of nothing

abbrev none : List ℕ
none = codes "(define (problem c) (:domain cells) (:init (oneof)) (:goal (x1)))"

none_fault : HasNoFault (domain_of_text cells_domain) (problem_of_text none)
unfolding cut_from class_of symbol_of some_at next_at
none_fault = record { domain = refl; problem = refl }

no_model : HasNoModel (initial_of (domain_of_text cells_domain) (problem_of_text none))
unfolding cut_from class_of symbol_of some_at next_at
no_model some = false≢true some.model

no_state : HasInitialState (problem_of_text none) → ⊥
no_state has = no_model ((states_are_models (domain_of_text cells_domain) (problem_of_text none) none_fault).0 has)
