-- Ground atoms by the numbers of their predicates and objects, and tables of them.
use Rattle.std.specs.Prelude.{◌≡◌, ◌==◌, ℕ, Bool, true, false, ◌&&◌, ◌||◌, if◌then◌else◌, List, [], ◌∷◌, ◌++◌, length, nat_lt, Vec, bytes_eq}
use Rattle.std.specs.List.{list_any, list_all, position_or_len}
use Rattle.std.specs.declared.alloc.Global.{Global}

-- a predicate and its objects, by number
pub record Atom : Type 0 where
  pub pred : ℕ
  pub objects : List ℕ

-- the atom of this predicate and these objects
abbrev pub atom : ℕ → List ℕ → Atom
atom q os = record { pred = q; objects = os }

-- ---- order

-- which list of objects comes first: at the first place where they differ the smaller number, and else the shorter list
abbrev pub list_before : List ℕ → List ℕ → Bool
list_before xs [] = false
list_before [] (y ∷ ys) = true
list_before (x ∷ xs) (y ∷ ys) = nat_lt x y || (x == y && list_before xs ys)

-- by predicate, and then by objects
abbrev pub atom_before : Atom → Atom → Bool
atom_before a b = nat_lt a.pred b.pred || (a.pred == b.pred && list_before a.objects b.objects)

-- each atom is before those behind it
abbrev pub AtomsAscend : List Atom → Type 0
AtomsAscend [] = Unit {0}
AtomsAscend (a ∷ more) = (list_all (atom_before a) more ≡ true) × AtomsAscend more

-- ---- numbers

-- whether two atoms are one
abbrev pub same_atom : Atom → Atom → Bool
same_atom a b = a.pred == b.pred && bytes_eq a.objects b.objects

-- whether the atom stands in the list
abbrev pub has_atom : List Atom → Atom → Bool
has_atom atoms a = list_any (same_atom a) atoms

-- an atom's number: its place in the list
abbrev pub number_of : List Atom → Atom → ℕ
number_of atoms a = position_or_len (same_atom a) atoms

-- ---- tables

-- an atom as a table keeps it
abbrev pub kept_atom : ℕ × Vec ℕ Global → Atom
kept_atom k = record { pred = k.0; objects = k.1.items }

-- the atoms with one more, where it is new
abbrev pub with_atom : List Atom → Atom → List Atom
with_atom atoms a = if has_atom atoms a then atoms else atoms ++ a ∷ []

-- the same, where there are no more than the limit
abbrev pub with_atom_within : ℕ → List Atom → Atom → List Atom
with_atom_within limit atoms a = if nat_lt limit (length atoms) then atoms else with_atom atoms a

-- the same atoms in ascending order
pub record IsSortOf (old new : List Atom) : Type 0 where
  pub same : (a : Atom) → has_atom new a ≡ has_atom old a
  pub long : length new ≡ length old
  pub ascending : AtomsAscend new

-- the atom stands in the list, and this is its number
pub record IsPlaced (atoms : List Atom) (n : ℕ) (a : Atom) : Type 0 where
  pub there : has_atom atoms a ≡ true
  pub number : n ≡ number_of atoms a
