-- The texts of the family of lines: something stands at one of n cells, one step to the left at a time is taken, and it is to be at the first.
use Rattle.std.specs.Prelude.{ℕ, List, [], ◌∷◌, ◌++◌, ◌-◌, codes, decimal, map}
use Rattle.std.specs.List.{range_with_len}
use Rattle.kp_base.specs.declared.refused.Texts.{Texts}
use Rattle.kp_gen.specs.Lines.{text}

-- the domain
abbrev pub domain_lines : List (List ℕ)
domain_lines =
    codes "(define (domain line)"
    ∷ codes "(:requirements :typing :conditional-effects)"
    ∷ codes "(:types cell)"
    ∷ codes "(:predicates (at ?c - cell) (next ?b - cell ?a - cell))"
    ∷ codes "(:action left"
    ∷ codes ":parameters ()"
    ∷ codes ":effect (forall (?b - cell ?a - cell) (when (and (at ?b) (next ?b ?a)) (and (at ?a) (not (at ?b)))))"
    ∷ codes ")"
    ∷ codes ")"
    ∷ []

-- the cell of a number
abbrev pub cell : ℕ → List ℕ
cell i = codes "c" ++ decimal i

-- it is at the cell
abbrev pub at_cell : ℕ → List ℕ
at_cell i = codes "(at " ++ (cell i ++ codes ")")

-- the cell has the one before it on its left
abbrev pub next_cell : ℕ → List ℕ
next_cell i = codes "(next " ++ (cell i ++ (codes " " ++ (cell (i - 1) ++ codes ")")))

-- the section of the objects: the cells from 1 to n
abbrev pub objects_lines : ℕ → List (List ℕ)
objects_lines n = codes "(:objects" ∷ map cell (range_with_len 1 n) ++ codes "- cell)" ∷ []

-- it is at just one of the cells
abbrev pub oneof_lines : ℕ → List (List ℕ)
oneof_lines n = codes "(oneof" ∷ map at_cell (range_with_len 1 n) ++ codes ")" ∷ []

-- the section of the initial states: where it is, and that each cell from 2 to n has one on its left
abbrev pub init_lines : ℕ → List (List ℕ)
init_lines n = codes "(:init" ∷ oneof_lines n ++ map next_cell (range_with_len 2 (n - 1)) ++ codes ")" ∷ []

-- the problem with n cells
abbrev pub problem_lines : ℕ → List (List ℕ)
problem_lines n = codes "(define (problem line)" ∷ codes "(:domain line)" ∷ objects_lines n ++ init_lines n ++ codes "(:goal (at c1))" ∷ codes ")" ∷ []

-- both texts
abbrev pub line_texts : ℕ → Texts
line_texts n = record { domain = text domain_lines; problem = text (problem_lines n) }
