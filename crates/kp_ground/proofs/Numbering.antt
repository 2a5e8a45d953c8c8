-- The gathered atoms, sorted, are the ground atoms, where the limit isn't passed; and where it is, there are too many.
use Rattle.std.proofs.Common.{◌≡◌, ℕ, ◌≤◌, true, List, [], map, length, sym, subst, ◌∙◌}
use Rattle.std.proofs.lemmas.Map.Made.{length-le_from_is_member}
use Rattle.kp_base.proofs.Lists.{bool_same, map_member, member_at}
use Rattle.kp_names_semantics.specs.Numbered.{Lifted}
use Rattle.kp_base.specs.Atoms.{Atom, has_atom, number_of, IsSortOf}
use Rattle.kp_ground_semantics.specs.Ground.{atom_of, occurring, ground_atoms}
use Rattle.kp_base.proofs.AtomOrder.{same_atoms, member_has_atom, has_atom_member, ascending_atoms_same}
use Rattle.kp_ground_semantics.proofs.Public.{atoms_are_numbered}
use Rattle.kp_ground.specs.Gathered.{gather}
use Rattle.kp_ground.proofs.Gathers.{no_atoms_are_distinct, gathered_are_distinct, gathered_are_no_others, gathered_are_all}
use Rattle.kp_ground.specs.Passes.{noted}
use Rattle.kp_ground.proofs.Noted.{noted_atoms}

-- the ground atoms are those that occur
occur : (l : Lifted) (x : Atom) → has_atom (ground_atoms l) x ≡ has_atom (map atom_of (occurring l)) x
occur l x = bool_same (has_atom (ground_atoms l) x) (has_atom (map atom_of (occurring l)) x)
    (λ h. member_has_atom (map atom_of (occurring l)) x ((atoms_are_numbered l).occur x (has_atom_member (ground_atoms l) x h)))
    (λ h.
    let found = map_member atom_of (occurring l) x (has_atom_member (map atom_of (occurring l)) x h) in
    let number = number_of (ground_atoms l) (atom_of found.0) in
    subst (λ z. has_atom (ground_atoms l) z ≡ true) found.2
    (member_has_atom (ground_atoms l) (atom_of found.0) (member_at (ground_atoms l) number (atom_of found.0) ((atoms_are_numbered l).numbering.covers found.0 found.1))))

module _ (l : Lifted) (limit : ℕ) where
  only_ground : (x : Atom) → has_atom (gather limit [] (noted l)) x ≡ true → has_atom (ground_atoms l) x ≡ true
  only_ground x h = occur l x ∙ (sym (noted_atoms l x) ∙ gathered_are_no_others limit (noted l) [] x h)

  -- there are no fewer ground atoms than were gathered
  pub gathered_le : length (gather limit [] (noted l)) ≤ length (ground_atoms l)
  gathered_le = length-le_from_is_member same_atoms (gather limit [] (noted l)) (ground_atoms l) (gathered_are_distinct limit (noted l) [] no_atoms_are_distinct) only_ground

  -- where no more than the limit were gathered, all were
  pub sorted_is : (sorted : List Atom) → length (gather limit [] (noted l)) ≤ limit → IsSortOf (gather limit [] (noted l)) sorted → sorted ≡ ground_atoms l
  sorted_is sorted few sort = ascending_atoms_same sorted (ground_atoms l) sort.ascending (atoms_are_numbered l).ascending (λ x.
      sort.same x ∙ bool_same (has_atom (gather limit [] (noted l)) x) (has_atom (ground_atoms l) x) (only_ground x)
      (λ h. gathered_are_all limit (noted l) [] x few (noted_atoms l x ∙ (sym (occur l x) ∙ h))))
