use Rattle.std.proofs.Common.{◌≡◌, ◌++◌, drop}
use Rattle.kp_classic.specs.Grounded.{atoms_with}
use Rattle.kp_classic.proofs.grounded.atoms_with.Given as goal

-- with the literals that are left come all
abbrev pub invariant-loop-lit : goal.invariant-loop-lit
invariant-loop-lit l = l.atoms ++ atoms_with l.sign (drop l.lit-index l.lits) ≡ atoms_with l.sign l.lits
