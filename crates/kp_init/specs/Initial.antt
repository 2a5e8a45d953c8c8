-- The initial formula: what `:init` says of the ground atoms, as clauses and closed atoms.
use Rattle.std.specs.Prelude.{not, List, [], ◌∷◌, ◌++◌, map, filter}
use Rattle.std.specs.List.{flat_map}
use Rattle.kp_base.specs.declared.lit.Lit.{Lit}
use Rattle.kp_base.specs.declared.lit.AtomId.{AtomId}
use Rattle.kp_base.specs.declared.ground.Initial.{Initial}
use Rattle.kp_base.specs.Planning.{only_if, each_once, negated, same_lit, set_of, Atom, has_atom, number_of}
use Rattle.kp_names_semantics.specs.declared.lifted.Item.{Item}
use Rattle.kp_names_semantics.specs.Numbered.{Lifted}
use Rattle.kp_names_semantics.specs.Lifted.{is_named}
use Rattle.kp_ground_semantics.specs.Ground.{atom_of, ground_atoms, numbered, numbered_set}

-- for each pair of literals, the first slowest: not both hold
abbrev pub no_two : List Lit → List (List Lit)
no_two [] = []
no_two (x ∷ xs) = map (λ y. set_of (negated x ∷ negated y ∷ [])) xs ++ no_two xs

-- some literal holds, and of different ones no two do
abbrev pub exactly_one : List Lit → List (List Lit)
exactly_one ls = set_of ls ∷ no_two (each_once same_lit ls)

-- the clauses of an item; a literal whose atom isn't in the list is of a static predicate, and says nothing of the others
abbrev pub item_clauses : List Atom → Item → List (List Lit)
item_clauses atoms (Item.One m) = only_if (has_atom atoms (atom_of m)) ((numbered atoms m ∷ []) ∷ [])
item_clauses atoms (Item.OneOf ms) = exactly_one (map (numbered atoms) ms)
item_clauses atoms (Item.AnyOf ms) = numbered_set atoms ms ∷ []
item_clauses atoms (Item.Unknown m) = []

-- the numbers of the atoms that no item names: these are false at the start
abbrev pub closed_of : Lifted → List Atom → List AtomId
closed_of l atoms = map (λ a. record { 0 = number_of atoms a }) (filter (λ a. not (is_named l a.pred a.objects)) atoms)

-- the initial formula over any list of atoms
abbrev pub initial_over : Lifted → List Atom → Initial
initial_over l atoms = record { clauses = flat_map (item_clauses atoms) l.init; closed = closed_of l atoms }

-- the initial formula
abbrev pub initial_of : Lifted → Initial
initial_of l = initial_over l (ground_atoms l)
