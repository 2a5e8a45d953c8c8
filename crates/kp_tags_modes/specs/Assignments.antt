-- Tags that say of each atom of some clauses whether it is true.
use Rattle.std.specs.Prelude.{◌≡◌, ◌↔◌, ℕ, List, map}
use Rattle.kp_base.specs.Planning.{IsAscending, positive, Member, AreTagsOfClauses, either_value}
use Rattle.kp_base.specs.declared.lit.Lit.{Lit}
use Rattle.kp_base.specs.declared.ground.Initial.{Initial}

-- a literal of a clause is of the atom
pub record HasAtom (cs : List (List Lit)) (p : ℕ) : Type 0 where
  pub clause : List Lit
  pub lit : Lit
  pub clause_in : Member cs clause
  pub lit_in : Member clause lit
  pub of_atom : lit.atom.0 ≡ p

-- just the atoms of the clauses, in order
pub record AreAtomsOf (cs : List (List Lit)) (ps : List ℕ) : Type 0 where
  pub exact : (p : ℕ) → Member ps p ↔ HasAtom cs p
  pub ascending : IsAscending (map positive ps)

-- the consistent assignments of the atoms of the clauses: true before false, and the least atom slowest
pub record AreAssignments (i : Initial) (cs tags : List (List Lit)) : Type 0 where
  pub atoms : List ℕ
  pub are_atoms : AreAtomsOf cs atoms
  pub are : AreTagsOfClauses i (map either_value atoms) tags
