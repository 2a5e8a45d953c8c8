use Rattle.std.proofs.Common.{◌≡◌, ◌++◌, map, drop}
use Rattle.kp_classic.specs.Grounded.{nameless}
use Rattle.kp_classic.proofs.grounded.no_names.Given as goal

-- with the atoms that are left come all
abbrev pub invariant-loop-atom : goal.invariant-loop-atom
invariant-loop-atom l = l.row ++ map nameless (drop l._atom-index l.atoms) ≡ map nameless l.atoms
