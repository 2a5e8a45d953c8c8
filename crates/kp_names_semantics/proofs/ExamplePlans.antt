-- Plans and lists that are no plans, computed from texts.
use Rattle.std.proofs.Common.{◌≡◌, ℕ, Bool, true, false, ◌&&◌, List, [], ◌∷◌, refl, codes}
use Rattle.std.proofs.lemmas.Bool.{false≢true}
use Rattle.kp_lex.specs.Bytes.{class_of}
use Rattle.kp_lex.specs.Scanning.{cut_from}
use Rattle.kp_tree_grammar.specs.Symbols.{symbol_of}
use Rattle.kp_tree_grammar.specs.Parsing.{some_at, next_at}
use Rattle.kp_tree_grammar.proofs.Public.{exchange_text, from_p_to_q_text}
use Rattle.kp_tree_grammar.specs.declared.tree.Word.{Word}
use Rattle.kp_tree_grammar.specs.Trees.{Problem}
use Rattle.kp_names_semantics.specs.Names.{Name}
use Rattle.kp_names_semantics.specs.States.{State}
use Rattle.kp_names_semantics.specs.Steps.{Step, is_instance}
use Rattle.kp_names_semantics.specs.Initial.{is_named}
use Rattle.kp_names_semantics.specs.Plans.{HasProblem, succeeds, IsPlan}
use Rattle.kp_names_semantics.proofs.Texts.{domain_of, problem_of, has_problem, solves_theirs}

abbrev pub step : List ℕ → List Name → Step
step head objects = record { head = head; objects = objects }

-- the state of the named atoms whose predicates pass the test
abbrev pub state_of : Problem Word → (Name → Bool) → State
state_of p test h os = is_named p h os && test h

pub named_alone : (p : Problem Word) (test : Name → Bool) (h : Name) (os : List Name) → is_named p h os ≡ false → state_of p test h os ≡ false
named_alone p test h os e = rw e refl

-- ---- one action that exchanges p for q

exchange_problem : HasProblem exchange_text from_p_to_q_text
unfolding cut_from class_of symbol_of some_at next_at
exchange_problem = has_problem exchange_text from_p_to_q_text (record { domain_cut = refl; problem_cut = refl; domain_read = refl; problem_read = refl; domain_faults = refl; problem_faults = refl })

-- the action is a plan
one_exchange : IsPlan exchange_text from_p_to_q_text (step (codes "a") [] ∷ [])
unfolding cut_from class_of symbol_of some_at next_at exchange_problem
one_exchange = record { has = exchange_problem; solves = record { instances = refl; reaches = λ s i. i.items } }

-- no step is none: q doesn't hold
no_exchange : IsPlan exchange_text from_p_to_q_text ([]) → ⊥
unfolding cut_from class_of symbol_of some_at next_at exchange_problem
no_exchange plan = false≢true ((solves_theirs exchange_text from_p_to_q_text exchange_problem ([]) plan).reaches (state_of (problem_of from_p_to_q_text) (λ h. true)) (record { items = refl; absent = named_alone (problem_of from_p_to_q_text) (λ h. true) }))

-- nor is the action twice: p doesn't hold any more
two_exchanges : IsPlan exchange_text from_p_to_q_text (step (codes "a") [] ∷ step (codes "a") [] ∷ []) → ⊥
unfolding cut_from class_of symbol_of some_at next_at exchange_problem
two_exchanges plan = false≢true ((solves_theirs exchange_text from_p_to_q_text exchange_problem (step (codes "a") [] ∷ step (codes "a") [] ∷ []) plan).reaches (state_of (problem_of from_p_to_q_text) (λ h. true)) (record { items = refl; absent = named_alone (problem_of from_p_to_q_text) (λ h. true) }))

-- nor a step that is no instance
no_action : IsPlan exchange_text from_p_to_q_text (step (codes "b") [] ∷ []) → ⊥
unfolding cut_from class_of symbol_of some_at next_at exchange_problem
no_action plan = false≢true (solves_theirs exchange_text from_p_to_q_text exchange_problem (step (codes "b") [] ∷ []) plan).instances

-- ---- a parameter for each end; the move from a place to itself adds and deletes one atom

abbrev pub moves : List ℕ
moves = codes "(define (domain f) (:types cell) (:predicates (at ?c - cell)) (:action move :parameters (?x ?y - cell) :precondition (at ?x) :effect (and (not (at ?x)) (at ?y))))"

abbrev pub from_a_to_b : List ℕ
from_a_to_b = codes "(define (problem f) (:domain f) (:objects a b - cell) (:init (at a)) (:goal (at b)))"

pub move_problem : HasProblem moves from_a_to_b
unfolding cut_from class_of symbol_of some_at next_at
move_problem = has_problem moves from_a_to_b (record { domain_cut = refl; problem_cut = refl; domain_read = refl; problem_read = refl; domain_faults = refl; problem_faults = refl })

abbrev pub move : List ℕ → List ℕ → Step
move x y = step (codes "move") (x ∷ y ∷ [])

-- the add wins, so a step from a to a and then one from a to b is a plan
stay_and_go : IsPlan moves from_a_to_b (move (codes "a") (codes "a") ∷ move (codes "a") (codes "b") ∷ [])
unfolding cut_from class_of symbol_of some_at next_at move_problem
stay_and_go = record { has = move_problem; solves = record { instances = refl; reaches = λ s i. i.items } }

-- the step from a to a alone leads to no goal
stay : IsPlan moves from_a_to_b (move (codes "a") (codes "a") ∷ []) → ⊥
unfolding cut_from class_of symbol_of some_at next_at move_problem
stay plan = false≢true ((solves_theirs moves from_a_to_b move_problem (move (codes "a") (codes "a") ∷ []) plan).reaches (state_of (problem_of from_a_to_b) (λ h. true)) (record { items = refl; absent = named_alone (problem_of from_a_to_b) (λ h. true) }))

-- a step names a schema and an object for each parameter
four_moves : is_instance (domain_of moves) (problem_of from_a_to_b) (move (codes "b") (codes "a")) ≡ true
unfolding cut_from class_of symbol_of some_at next_at
four_moves = refl

unknown_end : is_instance (domain_of moves) (problem_of from_a_to_b) (move (codes "a") (codes "c")) ≡ false
unfolding cut_from class_of symbol_of some_at next_at
unknown_end = refl

one_end : is_instance (domain_of moves) (problem_of from_a_to_b) (step (codes "move") (codes "a" ∷ [])) ≡ false
unfolding cut_from class_of symbol_of some_at next_at
one_end = refl

three_ends : is_instance (domain_of moves) (problem_of from_a_to_b) (step (codes "move") (codes "a" ∷ codes "a" ∷ codes "a" ∷ [])) ≡ false
unfolding cut_from class_of symbol_of some_at next_at
three_ends = refl

-- ---- conditional effects on an unknown atom: each initial state is run by itself

abbrev either_way : List ℕ
either_way = codes "(define (domain c) (:predicates (p) (q)) (:action a :effect (when (p) (q))) (:action b :effect (when (not (p)) (q))))"

abbrev unknown_p : List ℕ
unknown_p = codes "(define (problem c) (:domain c) (:init (unknown (p))) (:goal (q)))"

unknown_problem : HasProblem either_way unknown_p
unfolding cut_from class_of symbol_of some_at next_at
unknown_problem = has_problem either_way unknown_p (record { domain_cut = refl; problem_cut = refl; domain_read = refl; problem_read = refl; domain_faults = refl; problem_faults = refl })

both_run : (s : State) → (t : Bool) → s (codes "p") [] ≡ t → succeeds (domain_of either_way) (problem_of unknown_p) (step (codes "a") [] ∷ step (codes "b") [] ∷ []) s ≡ true
unfolding cut_from class_of symbol_of some_at next_at
both_run s true e = rw e refl
both_run s false e = rw e refl

-- both actions together are a plan
both : IsPlan either_way unknown_p (step (codes "a") [] ∷ step (codes "b") [] ∷ [])
unfolding cut_from class_of symbol_of some_at next_at unknown_problem
both = record { has = unknown_problem; solves = record { instances = refl; reaches = λ s i. both_run s (s (codes "p") []) refl } }

-- the first fails where p doesn't hold
a_alone : IsPlan either_way unknown_p (step (codes "a") [] ∷ []) → ⊥
unfolding cut_from class_of symbol_of some_at next_at unknown_problem
a_alone plan = false≢true ((solves_theirs either_way unknown_p unknown_problem (step (codes "a") [] ∷ []) plan).reaches (state_of (problem_of unknown_p) (λ h. false)) (record { items = refl; absent = named_alone (problem_of unknown_p) (λ h. false) }))

-- and the second where it does
b_alone : IsPlan either_way unknown_p (step (codes "b") [] ∷ []) → ⊥
unfolding cut_from class_of symbol_of some_at next_at unknown_problem
b_alone plan = false≢true ((solves_theirs either_way unknown_p unknown_problem (step (codes "b") [] ∷ []) plan).reaches (state_of (problem_of unknown_p) (λ h. true)) (record { items = refl; absent = named_alone (problem_of unknown_p) (λ h. true) }))
