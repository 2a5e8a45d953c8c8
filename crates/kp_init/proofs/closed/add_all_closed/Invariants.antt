use Rattle.std.proofs.Common.{◌≡◌, ◌++◌, map, drop}
use Rattle.kp_base.specs.Atoms.{kept_atom}
use Rattle.kp_names.specs.View.{lifted_view}
use Rattle.kp_init.specs.NamedAtoms.{closed_among}
use Rattle.kp_init.proofs.closed.add_all_closed.Given as goal

-- with the atoms that are left come all
abbrev pub invariant-loop-key : goal.invariant-loop-key
invariant-loop-key l = l.closed ++ closed_among (lifted_view l.named) l.atoms (map kept_atom (drop l.key-index l.keys)) ≡ l.fn.closed ++ closed_among (lifted_view l.named) l.atoms (map kept_atom l.keys)
