-- Types, ranges and instances, computed from texts.
use Rattle.std.proofs.Common.{◌≡◌, ℕ, Bool, true, false, List, [], ◌∷◌, refl, codes}
use Rattle.kp_lex.specs.Bytes.{class_of}
use Rattle.kp_lex.specs.Scanning.{cut_from}
use Rattle.kp_tree_grammar.specs.Symbols.{symbol_of}
use Rattle.kp_tree_grammar.specs.Parsing.{some_at, next_at}
use Rattle.kp_names_semantics.specs.Names.{is_among}
use Rattle.kp_names_semantics.specs.Types.{types, is_below, objects}
use Rattle.kp_names_semantics.specs.Steps.{is_instance}
use Rattle.kp_names_semantics.proofs.Texts.{domain_of, problem_of}

abbrev below : List ℕ → List ℕ → List ℕ → Bool
below text t u = is_below (domain_of text).kinds t u

-- ---- the order of types

-- a cycle makes its types equal
abbrev ring : List ℕ
ring = codes "(define (domain r) (:types x - y y - z z - x))"

round : below ring (codes "z") (codes "y") ≡ true
unfolding cut_from class_of symbol_of some_at next_at
round = refl

and_back : below ring (codes "y") (codes "z") ≡ true
unfolding cut_from class_of symbol_of some_at next_at
and_back = refl

beside : below ring (codes "w") (codes "y") ≡ false
unfolding cut_from class_of symbol_of some_at next_at
beside = refl

-- the root is below none of them, and each is below it
not_root : below ring (codes "object") (codes "y") ≡ false
unfolding cut_from class_of symbol_of some_at next_at
not_root = refl

under_root : below ring (codes "x") (codes "object") ≡ true
unfolding cut_from class_of symbol_of some_at next_at
under_root = refl

-- one line with two parents, another line for the same type, and parents that have no line
abbrev lines : List ℕ
lines = codes "(define (domain l) (:types cup - (either dish vessel) cup - toy dish - thing box))"

first_parent : below lines (codes "cup") (codes "dish") ≡ true
unfolding cut_from class_of symbol_of some_at next_at
first_parent = refl

second_parent : below lines (codes "cup") (codes "vessel") ≡ true
unfolding cut_from class_of symbol_of some_at next_at
second_parent = refl

other_line : below lines (codes "cup") (codes "toy") ≡ true
unfolding cut_from class_of symbol_of some_at next_at
other_line = refl

two_up : below lines (codes "cup") (codes "thing") ≡ true
unfolding cut_from class_of symbol_of some_at next_at
two_up = refl

not_down : below lines (codes "dish") (codes "cup") ≡ false
unfolding cut_from class_of symbol_of some_at next_at
not_down = refl

parents_are_types : is_among (types (domain_of lines)) (codes "vessel") ≡ true
unfolding cut_from class_of symbol_of some_at next_at
parents_are_types = refl

others_are_none : is_among (types (domain_of lines)) (codes "fork") ≡ false
unfolding cut_from class_of symbol_of some_at next_at
others_are_none = refl

-- what is above the root is above all types
abbrev over_root : List ℕ
over_root = codes "(define (domain o) (:types object - top a - b))"

all_below : below over_root (codes "b") (codes "top") ≡ true
unfolding cut_from class_of symbol_of some_at next_at
all_below = refl

top_above : below over_root (codes "top") (codes "b") ≡ false
unfolding cut_from class_of symbol_of some_at next_at
top_above = refl

-- ---- objects and ranges

abbrev kitchen : List ℕ
kitchen = codes "(define (domain k) (:types cup dish spoon) (:constants mug - cup) (:action wash :parameters (?x - (either cup dish))) (:action stir :parameters (?x - spoon)) (:action see :parameters (?x)) (:action pair :parameters (?x - cup ?y - dish)))"

abbrev table : List ℕ
table = codes "(define (problem t) (:objects plate - dish bowl - (either cup dish) ladle - spoon mug - dish thing) (:goal ()))"

-- constants first, each object once
each_once : objects (domain_of kitchen) (problem_of table) ≡ codes "mug" ∷ codes "plate" ∷ codes "bowl" ∷ codes "ladle" ∷ codes "thing" ∷ []
unfolding cut_from class_of symbol_of some_at next_at
each_once = refl

-- with `either`, an object of one type or of the other will do
one_listed : is_instance (domain_of kitchen) (problem_of table) (record { head = codes "wash"; objects = codes "plate" ∷ [] }) ≡ true
unfolding cut_from class_of symbol_of some_at next_at
one_listed = refl

other_listed : is_instance (domain_of kitchen) (problem_of table) (record { head = codes "wash"; objects = codes "mug" ∷ [] }) ≡ true
unfolding cut_from class_of symbol_of some_at next_at
other_listed = refl

not_listed : is_instance (domain_of kitchen) (problem_of table) (record { head = codes "wash"; objects = codes "ladle" ∷ [] }) ≡ false
unfolding cut_from class_of symbol_of some_at next_at
not_listed = refl

-- an object without a type is of the root alone, and a variable without one ranges over all
untyped_object : is_instance (domain_of kitchen) (problem_of table) (record { head = codes "wash"; objects = codes "thing" ∷ [] }) ≡ false
unfolding cut_from class_of symbol_of some_at next_at
untyped_object = refl

untyped_variable : is_instance (domain_of kitchen) (problem_of table) (record { head = codes "see"; objects = codes "ladle" ∷ [] }) ≡ true
unfolding cut_from class_of symbol_of some_at next_at
untyped_variable = refl

-- an object has each of its types
has_both : is_instance (domain_of kitchen) (problem_of table) (record { head = codes "pair"; objects = codes "bowl" ∷ codes "bowl" ∷ [] }) ≡ true
unfolding cut_from class_of symbol_of some_at next_at
has_both = refl

-- one that is named twice has the types of both
named_twice : is_instance (domain_of kitchen) (problem_of table) (record { head = codes "pair"; objects = codes "mug" ∷ codes "mug" ∷ [] }) ≡ true
unfolding cut_from class_of symbol_of some_at next_at
named_twice = refl

wrong_order : is_instance (domain_of kitchen) (problem_of table) (record { head = codes "pair"; objects = codes "plate" ∷ codes "mug" ∷ [] }) ≡ false
unfolding cut_from class_of symbol_of some_at next_at
wrong_order = refl
