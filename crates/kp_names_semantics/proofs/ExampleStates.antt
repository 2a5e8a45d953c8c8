-- Holding, firing and initial states, computed from texts.
use Rattle.std.proofs.Common.{◌≡◌, ℕ, Bool, true, false, List, [], ◌∷◌, refl, codes}
use Rattle.std.proofs.lemmas.Bool.{false≢true, true≢false}
use Rattle.std.specs.List.{list_all}
use Rattle.kp_lex.specs.Bytes.{class_of}
use Rattle.kp_lex.specs.Scanning.{cut_from}
use Rattle.kp_tree_grammar.specs.Symbols.{symbol_of}
use Rattle.kp_tree_grammar.specs.Parsing.{some_at, next_at}
use Rattle.kp_names_semantics.specs.Names.{Name, is_among}
use Rattle.kp_names_semantics.specs.States.{State}
use Rattle.kp_names_semantics.specs.Steps.{applicable, next}
use Rattle.kp_names_semantics.specs.Initial.{item_holds, IsInitial}
use Rattle.kp_names_semantics.proofs.Texts.{domain_of, problem_of}
use Rattle.kp_names_semantics.proofs.ExamplePlans.{step}

-- the state in which these predicates hold of each list of objects
abbrev of : List Name → State
of hs h os = is_among hs h

-- ---- items of `:init`

abbrev items_hold : List ℕ → List Name → Bool
items_hold text hs = list_all (item_holds (of hs)) (problem_of text).init

-- a repeated literal counts once, and exactly one holds
abbrev one : List ℕ
one = codes "(define (problem e) (:init (oneof (p) (p) (q))) (:goal ()))"

one_p : items_hold one (codes "p" ∷ []) ≡ true
unfolding cut_from class_of symbol_of some_at next_at
one_p = refl

one_q : items_hold one (codes "q" ∷ []) ≡ true
unfolding cut_from class_of symbol_of some_at next_at
one_q = refl

one_p_q : items_hold one (codes "p" ∷ codes "q" ∷ []) ≡ false
unfolding cut_from class_of symbol_of some_at next_at
one_p_q = refl

one_none : items_hold one ([]) ≡ false
unfolding cut_from class_of symbol_of some_at next_at
one_none = refl

-- an atom and its negation are different literals
abbrev one_sign : List ℕ
one_sign = codes "(define (problem e) (:init (oneof (p) (not (p)))) (:goal ()))"

one_sign_p : items_hold one_sign (codes "p" ∷ []) ≡ true
unfolding cut_from class_of symbol_of some_at next_at
one_sign_p = refl

one_sign_none : items_hold one_sign ([]) ≡ true
unfolding cut_from class_of symbol_of some_at next_at
one_sign_none = refl

-- of no literals none holds
abbrev no_one : List ℕ
no_one = codes "(define (problem e) (:init (oneof)) (:goal ()))"

no_one_none : items_hold no_one ([]) ≡ false
unfolding cut_from class_of symbol_of some_at next_at
no_one_none = refl

abbrev no_some : List ℕ
no_some = codes "(define (problem e) (:init (or)) (:goal ()))"

no_some_none : items_hold no_some ([]) ≡ false
unfolding cut_from class_of symbol_of some_at next_at
no_some_none = refl

abbrev some : List ℕ
some = codes "(define (problem e) (:init (or (p) (not (q)))) (:goal ()))"

some_p_q : items_hold some (codes "p" ∷ codes "q" ∷ []) ≡ true
unfolding cut_from class_of symbol_of some_at next_at
some_p_q = refl

some_none : items_hold some ([]) ≡ true
unfolding cut_from class_of symbol_of some_at next_at
some_none = refl

some_q : items_hold some (codes "q" ∷ []) ≡ false
unfolding cut_from class_of symbol_of some_at next_at
some_q = refl

-- parts within parts all hold, and what is unknown is free
abbrev parts : List ℕ
parts = codes "(define (problem e) (:init (and (p) (and (not (q)) (unknown (r))))) (:goal ()))"

parts_p : items_hold parts (codes "p" ∷ []) ≡ true
unfolding cut_from class_of symbol_of some_at next_at
parts_p = refl

parts_p_r : items_hold parts (codes "p" ∷ codes "r" ∷ []) ≡ true
unfolding cut_from class_of symbol_of some_at next_at
parts_p_r = refl

parts_q : items_hold parts (codes "q" ∷ []) ≡ false
unfolding cut_from class_of symbol_of some_at next_at
parts_q = refl

parts_p_q : items_hold parts (codes "p" ∷ codes "q" ∷ []) ≡ false
unfolding cut_from class_of symbol_of some_at next_at
parts_p_q = refl

-- no state meets an atom and its negation
abbrev torn : List ℕ
torn = codes "(define (problem e) (:init (p) (not (p))) (:goal ()))"

-- so there is no initial state
no_first : (s : State) → IsInitial (problem_of torn) s → ⊥
unfolding cut_from class_of symbol_of some_at next_at
no_first s i = pick (s (codes "p") []) refl
  where
    pick : (t : Bool) → s (codes "p") [] ≡ t → ⊥
    pick true e = let h = i.items in false≢true (rw e at h)
    pick false e = let h = i.items in false≢true (rw e at h)

-- what no item names isn't there
abbrev only_p : List ℕ
only_p = codes "(define (problem e) (:init (p)) (:goal ()))"

unnamed : IsInitial (problem_of only_p) (of (codes "p" ∷ codes "q" ∷ [])) → ⊥
unfolding cut_from class_of symbol_of some_at next_at
unnamed i = true≢false (i.absent (codes "q") [] refl)

-- ---- conditions

abbrev tests : List ℕ
tests = codes "(define (domain d) (:predicates (p) (q)) (:action eq :parameters (?x ?y) :precondition (= ?x ?y)) (:action ne :parameters (?x ?y) :precondition (not (= ?x ?y))) (:action all :precondition (and (p) (and (not (q)) ()))))"

-- an equality holds of one object
one_object : applicable (domain_of tests) (step (codes "eq") (codes "a" ∷ codes "a" ∷ [])) (of ([])) ≡ true
unfolding cut_from class_of symbol_of some_at next_at
one_object = refl

two_objects : applicable (domain_of tests) (step (codes "eq") (codes "a" ∷ codes "b" ∷ [])) (of ([])) ≡ false
unfolding cut_from class_of symbol_of some_at next_at
two_objects = refl

not_one : applicable (domain_of tests) (step (codes "ne") (codes "a" ∷ codes "a" ∷ [])) (of ([])) ≡ false
unfolding cut_from class_of symbol_of some_at next_at
not_one = refl

not_two : applicable (domain_of tests) (step (codes "ne") (codes "a" ∷ codes "b" ∷ [])) (of ([])) ≡ true
unfolding cut_from class_of symbol_of some_at next_at
not_two = refl

-- all parts hold
all_parts : applicable (domain_of tests) (step (codes "all") ([])) (of (codes "p" ∷ [])) ≡ true
unfolding cut_from class_of symbol_of some_at next_at
all_parts = refl

not_first : applicable (domain_of tests) (step (codes "all") ([])) (of ([])) ≡ false
unfolding cut_from class_of symbol_of some_at next_at
not_first = refl

not_second : applicable (domain_of tests) (step (codes "all") ([])) (of (codes "p" ∷ codes "q" ∷ [])) ≡ false
unfolding cut_from class_of symbol_of some_at next_at
not_second = refl

-- ---- steps

abbrev acts : List ℕ
acts = codes "(define (domain d) (:types t) (:predicates (p) (q) (r ?x)) (:action swap :effect (and (when (p) (and (q) (not (p)))) (when (q) (and (p) (not (q)))))) (:action both :effect (and (p) (not (p)))) (:action drop :effect (not (p))) (:action late :effect (and (p) (when (p) (q)))) (:action mark :parameters (?x - t) :effect (forall (?x - t) (r ?x))) (:action pick :parameters (?x - t) :effect (forall (?y - t) (when (not (= ?x ?y)) (r ?y)))))"

abbrev marks : List ℕ
marks = codes "(define (problem e) (:objects a b - t c) (:goal ()))"

-- conditions are read in the state before: what holds moves once
p_to_q : next (domain_of acts) (problem_of marks) (step (codes "swap") ([])) (of (codes "p" ∷ [])) (codes "q") ([]) ≡ true
unfolding cut_from class_of symbol_of some_at next_at
p_to_q = refl

p_gone : next (domain_of acts) (problem_of marks) (step (codes "swap") ([])) (of (codes "p" ∷ [])) (codes "p") ([]) ≡ false
unfolding cut_from class_of symbol_of some_at next_at
p_gone = refl

q_to_p : next (domain_of acts) (problem_of marks) (step (codes "swap") ([])) (of (codes "q" ∷ [])) (codes "p") ([]) ≡ true
unfolding cut_from class_of symbol_of some_at next_at
q_to_p = refl

-- and where both hold, both adds win
both_stay_p : next (domain_of acts) (problem_of marks) (step (codes "swap") ([])) (of (codes "p" ∷ codes "q" ∷ [])) (codes "p") ([]) ≡ true
unfolding cut_from class_of symbol_of some_at next_at
both_stay_p = refl

both_stay_q : next (domain_of acts) (problem_of marks) (step (codes "swap") ([])) (of (codes "p" ∷ codes "q" ∷ [])) (codes "q") ([]) ≡ true
unfolding cut_from class_of symbol_of some_at next_at
both_stay_q = refl

-- an add wins over a delete, in any order of the text
add_wins : next (domain_of acts) (problem_of marks) (step (codes "both") ([])) (of ([])) (codes "p") ([]) ≡ true
unfolding cut_from class_of symbol_of some_at next_at
add_wins = refl

-- a delete takes its atom alone
deleted : next (domain_of acts) (problem_of marks) (step (codes "drop") ([])) (of (codes "p" ∷ codes "q" ∷ [])) (codes "p") ([]) ≡ false
unfolding cut_from class_of symbol_of some_at next_at
deleted = refl

kept : next (domain_of acts) (problem_of marks) (step (codes "drop") ([])) (of (codes "p" ∷ codes "q" ∷ [])) (codes "q") ([]) ≡ true
unfolding cut_from class_of symbol_of some_at next_at
kept = refl

-- what a step adds meets none of its conditions
not_late : next (domain_of acts) (problem_of marks) (step (codes "late") ([])) (of ([])) (codes "q") ([]) ≡ false
unfolding cut_from class_of symbol_of some_at next_at
not_late = refl

-- an inner variable hides the outer one, and stands for each object of its type
inner_a : next (domain_of acts) (problem_of marks) (step (codes "mark") (codes "a" ∷ [])) (of ([])) (codes "r") (codes "b" ∷ []) ≡ true
unfolding cut_from class_of symbol_of some_at next_at
inner_a = refl

inner_c : next (domain_of acts) (problem_of marks) (step (codes "mark") (codes "a" ∷ [])) (of ([])) (codes "r") (codes "c" ∷ []) ≡ false
unfolding cut_from class_of symbol_of some_at next_at
inner_c = refl

-- an outer variable keeps its object within
others : next (domain_of acts) (problem_of marks) (step (codes "pick") (codes "a" ∷ [])) (of ([])) (codes "r") (codes "b" ∷ []) ≡ true
unfolding cut_from class_of symbol_of some_at next_at
others = refl

not_itself : next (domain_of acts) (problem_of marks) (step (codes "pick") (codes "a" ∷ [])) (of ([])) (codes "r") (codes "a" ∷ []) ≡ false
unfolding cut_from class_of symbol_of some_at next_at
not_itself = refl
