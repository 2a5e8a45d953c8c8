-- What the table of named atoms tells. This file serves proofs alone.
use Rattle.std.specs.Prelude.{ℕ, Bool, not, List, map, filter}
use Rattle.std.specs.List.{list_any}
use denote.Ref.{Bor}
use Rattle.kp_base.specs.declared.lit.AtomId.{AtomId}
use Rattle.kp_names_semantics.specs.declared.lifted.Item.{Item}
use Rattle.kp_names_semantics.specs.Numbered.{Lifted}
use Rattle.kp_names_semantics.specs.Lifted.{item_literals, is_named}
use Rattle.kp_base.specs.Atoms.{Atom, same_atom, number_of}
use Rattle.kp_ground_semantics.specs.Ground.{atom_of}

-- ---- named atoms

-- an atom as a table keeps it
abbrev pub Key : Type 0
Key = ℕ × Bor (List ℕ)

-- the atom that is kept so
abbrev pub named_atom : Key → Atom
named_atom k = record { pred = k.0; objects = k.1.now }

-- an atom is one of these
abbrev pub is_kept : List Key → Atom → Bool
is_kept ks a = list_any (λ k. same_atom a (named_atom k)) ks

-- an item names an atom
abbrev pub is_named_by : Atom → Item → Bool
is_named_by a i = list_any (λ m. same_atom a (atom_of m)) (item_literals i)

-- ---- closed atoms

-- the numbers of those of some atoms that no item names
abbrev pub closed_among : Lifted → List Atom → List Atom → List AtomId
closed_among l atoms some = map (λ a. record { 0 = number_of atoms a }) (filter (λ a. not (is_named l a.pred a.objects)) some)
