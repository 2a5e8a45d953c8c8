-- A set of the atoms of all items tells which atoms are named.
use Rattle.std.proofs.Common.{◌≡◌, false, not, ◌||◌, if◌then◌else◌, cond, List, [], ◌∷◌, ◌++◌, map, ap}
use Rattle.std.specs.List.{list_any}
use Rattle.kp_base.specs.declared.lit.AtomId.{AtomId}
use Rattle.kp_base.proofs.Lists.{any_alike}
use Rattle.kp_names_semantics.specs.Numbered.{Lifted}
use Rattle.kp_names_semantics.specs.Lifted.{item_literals, is_of, is_named}
use Rattle.kp_base.specs.Atoms.{Atom, same_atom, number_of}
use Rattle.kp_ground_semantics.specs.Ground.{atom_of}
use Rattle.kp_base.proofs.Once.{any-added}
use Rattle.kp_base.proofs.AtomOrder.{same_atoms}
use Rattle.kp_init.specs.NamedAtoms.{Key, named_atom, is_kept, is_named_by, closed_among}

-- an atom that comes is told, and the others as before
pub one_more : (ks : List Key) (k : Key) (a : Atom) → is_kept (if is_kept ks (named_atom k) then ks else ks ++ k ∷ []) a ≡ (is_kept ks a || same_atom a (named_atom k))
one_more = any-added same_atom same_atoms named_atom

-- the atoms of all items are those that are named
pub all_named : (l : Lifted) (a : Atom) → list_any (is_named_by a) l.init ≡ is_named l a.pred a.objects
all_named l a = any_alike (is_named_by a) (λ i. list_any (is_of a.pred a.objects) (item_literals i)) l.init (λ i at. any_alike (λ m. same_atom a (atom_of m)) (is_of a.pred a.objects) (item_literals i) (λ m in'. same_atoms.symm a (atom_of m)))

-- one atom that isn't named is closed
pub one_closed : (l : Lifted) (atoms : List Atom) (a : Atom) → is_named l a.pred a.objects ≡ false → closed_among l atoms (a ∷ []) ≡ record { 0 = number_of atoms a } ∷ []
one_closed l atoms a h = ap (λ t. map number (cond (not t) (a ∷ []) [])) h
  where
    number : Atom → AtomId
    number b = record { 0 = number_of atoms b }
