-- Faults of names, computed from texts; a number is the byte at which the token begins.
use Rattle.std.proofs.Common.{◌≡◌, ◌≤◌, ℕ, List, [], ◌∷◌, refl, subst, inl, inr, codes, arith}
use Rattle.kp_lex.specs.Bytes.{class_of}
use Rattle.kp_lex.specs.Scanning.{cut_from}
use Rattle.kp_tree_grammar.specs.Symbols.{symbol_of}
use Rattle.kp_tree_grammar.specs.Parsing.{some_at, next_at}
use Rattle.kp_names_semantics.specs.Faults.{Fault, unknown_name, declared_twice, wrong_use, domain_faults, problem_faults, byte_of, IsFirst}
use Rattle.kp_names_semantics.specs.Plans.{HasProblem}
use Rattle.kp_tree_grammar.specs.Grammar as grammar
use Rattle.kp_tree_grammar.proofs.Public.{reads_by_computing, exchange_text}
use Rattle.kp_names_semantics.proofs.Texts.{tokens, domain_of, problem_of, reads_once}

abbrev in_domain : List ℕ → List ℕ → List Fault
in_domain a b = domain_faults (domain_of a) (problem_of b)

abbrev in_problem : List ℕ → List ℕ → List Fault
in_problem a b = problem_faults (domain_of a) (problem_of b)

-- ---- in the problem

-- no such predicate
abbrev goal_y : List ℕ
goal_y = codes "(define (problem e) (:domain d) (:init (p)) (:goal (y)))"

in_goal_y : in_problem exchange_text goal_y ≡ unknown_name 52 ∷ []
unfolding cut_from class_of symbol_of some_at next_at
in_goal_y = refl

-- too many terms, and no such object behind it
abbrev goal_p_z : List ℕ
goal_p_z = codes "(define (problem e) (:domain d) (:init (p)) (:goal (p z)))"

in_goal_p_z : in_problem exchange_text goal_p_z ≡ wrong_use 52 ∷ unknown_name 54 ∷ []
unfolding cut_from class_of symbol_of some_at next_at
in_goal_p_z = refl

-- a type, literals and items within others, and a part of the goal
abbrev many : List ℕ
many = codes "(define (problem e) (:objects o - box) (:init (oneof (p) (not (r))) (and (unknown (s)))) (:goal (and (q o) (p))))"

in_many : in_problem exchange_text many ≡ unknown_name 34 ∷ unknown_name 63 ∷ unknown_name 83 ∷ wrong_use 102 ∷ []
unfolding cut_from class_of symbol_of some_at next_at
in_many = refl

-- ---- in the domain

-- a problem with no object, and one with the object o
abbrev empty : List ℕ
empty = codes "(define (problem e) (:goal ()))"

abbrev with_o : List ℕ
with_o = codes "(define (problem e) (:objects o) (:goal ()))"

-- a second predicate and a second action; the first declaration of p counts
abbrev twice : List ℕ
twice = codes "(define (domain d) (:predicates (p) (q) (p ?x)) (:action a :effect (p)) (:action b) (:action a))"

in_twice : in_domain twice empty ≡ declared_twice 41 ∷ declared_twice 93 ∷ []
unfolding cut_from class_of symbol_of some_at next_at
in_twice = refl

-- a variable twice in one list
abbrev lists : List ℕ
lists = codes "(define (domain d) (:predicates (p ?x ?x)) (:action a :parameters (?y ?z ?y) :effect (forall (?u ?u) (and))))"

in_lists : in_domain lists empty ≡ declared_twice 38 ∷ declared_twice 73 ∷ declared_twice 97 ∷ []
unfolding cut_from class_of symbol_of some_at next_at
in_lists = refl

-- an inner variable may have an outer one's name
abbrev hidden : List ℕ
hidden = codes "(define (domain d) (:predicates (p ?x)) (:action a :parameters (?x) :effect (forall (?x) (p ?x))))"

in_hidden : in_domain hidden empty ≡ []
unfolding cut_from class_of symbol_of some_at next_at
in_hidden = refl

-- and isn't known outside
abbrev outside : List ℕ
outside = codes "(define (domain d) (:predicates (p ?x)) (:action a :effect (and (forall (?x) (p ?x)) (p ?x))))"

in_outside : in_domain outside empty ≡ unknown_name 88 ∷ []
unfolding cut_from class_of symbol_of some_at next_at
in_outside = refl

-- types of constants and of variables, but not those of a predicate; terms of equalities and of conditions
abbrev types : List ℕ
types = codes "(define (domain d) (:types cup - dish) (:constants c - cup e - fork) (:predicates (p ?x - knife)) (:action a :parameters (?x - dish ?y - (either cup ladle)) :precondition (and (not (= ?x ?z)) (p c)) :effect (when (not (p o)) (p ?y))))"

in_types : in_domain types empty ≡ unknown_name 63 ∷ unknown_name 149 ∷ unknown_name 187 ∷ unknown_name 221 ∷ []
unfolding cut_from class_of symbol_of some_at next_at
in_types = refl

-- an action may name an object of the problem
one_space : in_domain types with_o ≡ unknown_name 63 ∷ unknown_name 149 ∷ unknown_name 187 ∷ []
unfolding cut_from class_of symbol_of some_at next_at
one_space = refl

-- ---- what has no problem

-- the first of two faults
first : IsFirst (in_problem exchange_text goal_p_z) (wrong_use 52)
unfolding cut_from class_of symbol_of some_at next_at
first = record {
  among = inl refl;
  least = λ f m. elim m [
    | inl e ↦ subst (λ z. 52 ≤ byte_of z) e (omega arith)
    | inr r ↦ elim r [ inl e ↦ subst (λ z. 52 ≤ byte_of z) e (omega arith) | inr x ↦ absurd x ]
  ];
}

-- a text that reads, with a fault
faulty : HasProblem exchange_text goal_y → ⊥
unfolding cut_from class_of symbol_of some_at next_at
faulty x =
    let e = reads_once grammar.domain exchange_text x.domain (domain_of exchange_text) x.domain_reads (reads_by_computing grammar.domain exchange_text (tokens exchange_text) (domain_of exchange_text) refl refl) in
    let f = reads_once grammar.problem goal_y x.problem (problem_of goal_y) x.problem_reads (reads_by_computing grammar.problem goal_y (tokens goal_y) (problem_of goal_y) refl refl) in
    cc (subst (λ d. problem_faults d (problem_of goal_y) ≡ []) e (subst (λ p. problem_faults x.domain p ≡ []) f x.no_fault.problem))
