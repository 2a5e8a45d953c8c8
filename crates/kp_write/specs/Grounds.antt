-- Which ground problems can be written.
use Rattle.std.specs.Prelude.{◌≡◌, ◌<◌, ◌^◌, ℕ, Bool, List, map, length}
use Rattle.std.specs.List.{AllByRecursion, IsDistinct}
use Rattle.kp_base.specs.declared.lit.Lit.{Lit}
use Rattle.kp_base.specs.declared.ground.GroundName.{GroundName}
use Rattle.kp_base.specs.declared.ground.Effect.{Effect}
use Rattle.kp_base.specs.declared.ground.Action.{Action}
use Rattle.kp_base.specs.declared.ground.Ground.{Ground}
use Rattle.kp_names_semantics.specs.GroundNames.{IsGroundName, same_name}
use Rattle.kp_write.specs.Facts.{atom_fact}

-- the literal is of one of the atoms
abbrev pub IsOfAtom : List GroundName → Lit → Type 0
IsOfAtom atoms l = l.atom.0 < length atoms

-- each of the literals is
abbrev pub AreOfAtoms : List GroundName → List Lit → Type 0
AreOfAtoms atoms ls = AllByRecursion (IsOfAtom atoms) ls

-- an effect on these atoms
pub record IsGroundEffect (atoms : List GroundName) (e : Effect) : Type 0 where
  pub conds : AreOfAtoms atoms e.cond
  pub result : IsOfAtom atoms e.result

-- an action on these atoms, with a name that can be written
pub record IsGroundAction (atoms : List GroundName) (a : Action) : Type 0 where
  pub name : IsGroundName a.name
  pub pre : AreOfAtoms atoms a.pre
  pub effects : AllByRecursion (IsGroundEffect atoms) a.effects

-- A ground problem that can be written: its names are Names and differ, and each literal is of one of its atoms.
pub record IsWritable (g : Ground) : Type 0 where
  pub atoms : AllByRecursion IsGroundName g.atoms
  pub atoms_differ : IsDistinct same_name g.atoms
  pub actions : AllByRecursion (IsGroundAction g.atoms) g.actions
  pub actions_differ : IsDistinct same_name (map (λ a. a.name) g.actions)
  pub goal_of_atoms : AreOfAtoms g.atoms g.goal

-- ---- a law

-- facts with one name have one tag, one sign and one atom
abbrev pub FactsTellApart : Type 0
FactsTellApart = (s t : ℕ) (b c : Bool) (x y : GroundName) → s < 2 ^ 64 → t < 2 ^ 64 → IsGroundName x → IsGroundName y → atom_fact s b x ≡ atom_fact t c y → (s ≡ t) × (b ≡ c) × (x ≡ y)
