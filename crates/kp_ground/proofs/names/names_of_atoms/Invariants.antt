use Rattle.std.proofs.Common.{◌≡◌, ◌++◌, map, drop}
use Rattle.kp_base.specs.Atoms.{kept_atom}
use Rattle.kp_names.specs.View.{lifted_view}
use Rattle.kp_ground_semantics.specs.Ground.{atom_name}
use Rattle.kp_ground.proofs.names.names_of_atoms.Given as goal

-- with the atoms that are left come all
abbrev pub invariant-loop-key : goal.invariant-loop-key
invariant-loop-key l = l.row ++ map (atom_name (lifted_view l.lifted)) (map kept_atom (drop l.key-index l.keys)) ≡ map (atom_name (lifted_view l.lifted)) (map kept_atom l.keys)
