-- Atoms of literals, gathered one by one, each once, up to one beyond a limit.
use Rattle.std.specs.Prelude.{ℕ, List, fold}
use Rattle.kp_base.specs.Atoms.{Atom, with_atom_within}
use Rattle.kp_names_semantics.specs.declared.lifted.GroundLit.{GroundLit}
use Rattle.kp_ground_semantics.specs.Ground.{atom_of}

-- the atoms with that of a literal, where it is new and there are no more than the limit
abbrev pub with_literal : ℕ → List Atom → GroundLit → List Atom
with_literal limit atoms m = with_atom_within limit atoms (atom_of m)

-- the atoms with those of some literals
abbrev pub gather : ℕ → List Atom → List GroundLit → List Atom
gather limit atoms ms = fold (with_literal limit) atoms ms
