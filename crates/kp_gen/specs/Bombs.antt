-- The texts of the family of bombs: one of n packages is armed, a toilet puts out what is dunked in it and is then clogged until it is flushed, and no package is to be armed.
use Rattle.std.specs.Prelude.{ℕ, List, [], ◌∷◌, ◌++◌, codes, decimal, map}
use Rattle.std.specs.List.{range_with_len}
use Rattle.kp_base.specs.declared.refused.Texts.{Texts}
use Rattle.kp_gen.specs.Lines.{text}

-- the domain
abbrev pub domain_lines : List (List ℕ)
domain_lines =
    codes "(define (domain bombs)"
    ∷ codes "(:requirements :typing :negative-preconditions :conditional-effects)"
    ∷ codes "(:types package toilet)"
    ∷ codes "(:predicates (armed ?p - package) (clogged ?t - toilet))"
    ∷ codes "(:action dunk"
    ∷ codes ":parameters (?p - package ?t - toilet)"
    ∷ codes ":precondition (not (clogged ?t))"
    ∷ codes ":effect (and (when (armed ?p) (not (armed ?p))) (clogged ?t))"
    ∷ codes ")"
    ∷ codes "(:action flush"
    ∷ codes ":parameters ()"
    ∷ codes ":effect (forall (?t - toilet) (not (clogged ?t)))"
    ∷ codes ")"
    ∷ codes ")"
    ∷ []

-- the package of a number
abbrev pub package_name : ℕ → List ℕ
package_name i = codes "p" ++ decimal i

-- the package is armed
abbrev pub armed : ℕ → List ℕ
armed i = codes "(armed " ++ (package_name i ++ codes ")")

-- the package isn't armed
abbrev pub disarmed : ℕ → List ℕ
disarmed i = codes "(not " ++ (armed i ++ codes ")")

-- the section of the objects: the packages from 1 to n, and two toilets
abbrev pub objects_lines : ℕ → List (List ℕ)
objects_lines n = codes "(:objects" ∷ map package_name (range_with_len 1 n) ++ codes "- package t1 t2 - toilet)" ∷ []

-- the section of the initial states: one of the packages is armed
abbrev pub init_lines : ℕ → List (List ℕ)
init_lines n = codes "(:init" ∷ codes "(oneof" ∷ map armed (range_with_len 1 n) ++ codes ")" ∷ codes ")" ∷ []

-- the section of the goal: none of the packages is armed
abbrev pub goal_lines : ℕ → List (List ℕ)
goal_lines n = codes "(:goal (and" ∷ map disarmed (range_with_len 1 n) ++ codes "))" ∷ []

-- the problem with n packages
abbrev pub problem_lines : ℕ → List (List ℕ)
problem_lines n = codes "(define (problem bombs)" ∷ codes "(:domain bombs)" ∷ objects_lines n ++ init_lines n ++ goal_lines n ++ codes ")" ∷ []

-- both texts
abbrev pub bombs_texts : ℕ → Texts
bombs_texts n = record { domain = text domain_lines; problem = text (problem_lines n) }
