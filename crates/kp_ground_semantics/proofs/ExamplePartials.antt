-- Partial bindings of roads between three towns, and of lists that an equality refutes at once.
use Rattle.std.proofs.Common.{◌≡◌, ℕ, List, [], ◌∷◌, refl, map, length, codes}
use Rattle.kp_lex.specs.Bytes.{class_of}
use Rattle.kp_lex.specs.Scanning.{cut_from}
use Rattle.kp_tree_grammar.specs.Symbols.{symbol_of}
use Rattle.kp_tree_grammar.specs.Parsing.{some_at, next_at}
use Rattle.kp_ground_semantics.specs.Weights.{binding_count}
use Rattle.kp_ground_semantics.specs.Partial.{partial_bindings, schema_partials, partial_count, looked_at}
use Rattle.kp_ground_semantics.proofs.ExampleGrounds.{lifted, roads, three_towns}

-- none of a road between nothing; from each town; along each road
by_length : map (λ a. map (λ i. length (partial_bindings (lifted roads three_towns) a i)) (0 ∷ 1 ∷ 2 ∷ [])) (lifted roads three_towns).schemas ≡ (1 ∷ 3 ∷ 2 ∷ []) ∷ []
unfolding cut_from class_of symbol_of some_at next_at
by_length = refl

in_all : map (schema_partials (lifted roads three_towns)) (lifted roads three_towns).schemas ≡ 6 ∷ []
unfolding cut_from class_of symbol_of some_at next_at
in_all = refl

-- of nine bindings
fewer : looked_at (lifted roads three_towns) ≡ 6
unfolding cut_from class_of symbol_of some_at next_at
fewer = refl

-- ---- a literal without variables is false from the start; an equality speaks of its second variable

abbrev strict : List ℕ
strict = codes "(define (domain s) (:types t) (:predicates (p ?x) (q ?x) (no)) (:action a :parameters (?x ?y) :precondition (and (no) (p ?x)) :effect (q ?x)) (:action b :parameters (?x ?y ?z) :precondition (and (= ?x ?y) (not (p ?z))) :effect (q ?x)))"

abbrev two_things : List ℕ
two_things = codes "(define (problem s) (:domain s) (:objects c d) (:init (p c)) (:goal (q c)))"

strict_lengths : map (λ a. map (λ i. partial_bindings (lifted strict two_things) a i) (0 ∷ 1 ∷ 2 ∷ 3 ∷ [])) (lifted strict two_things).schemas
    ≡ ([] ∷ [] ∷ [] ∷ [] ∷ [])
    ∷ (([] ∷ []) ∷ ((0 ∷ []) ∷ (1 ∷ []) ∷ []) ∷ ((0 ∷ 0 ∷ []) ∷ (1 ∷ 1 ∷ []) ∷ []) ∷ ((0 ∷ 0 ∷ 1 ∷ []) ∷ (1 ∷ 1 ∷ 1 ∷ []) ∷ []) ∷ [])
    ∷ []
unfolding cut_from class_of symbol_of some_at next_at
strict_lengths = refl

-- none of the first schema, seven of the second; four and eight bindings
counts : map partial_count (lifted strict two_things ∷ []) ≡ 7 ∷ []
unfolding cut_from class_of symbol_of some_at next_at
counts = refl

all_lists : binding_count (lifted strict two_things) ≡ 12
unfolding cut_from class_of symbol_of some_at next_at
all_lists = refl
