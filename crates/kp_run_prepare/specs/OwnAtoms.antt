-- Ground problems that speak of their own atoms, by their parts: the invariant of what is prepared, whose definitions can't name it.
use Rattle.std.specs.Prelude.{List}
use Rattle.kp_base.specs.declared.ground.Action.{Action}
use Rattle.kp_base.specs.declared.ground.GroundName.{GroundName}
use Rattle.kp_base.specs.declared.lit.Lit.{Lit}
use Rattle.kp_base.specs.Atoms.{Atom}
use Rattle.kp_base.specs.Implicates.{IsOfItsAtoms}

-- each literal of the ground problem of these parts is of one of its atoms
abbrev pub HasOwnAtoms : List GroundName → List Atom → List Action → List Lit → Type 0
HasOwnAtoms atoms table actions goal = IsOfItsAtoms (record { atoms = atoms; table = table; actions = actions; goal = goal })
