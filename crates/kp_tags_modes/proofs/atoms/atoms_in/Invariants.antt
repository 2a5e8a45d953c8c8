use Rattle.std.proofs.Common.{◌≡◌, take}
use Rattle.kp_tags_modes.specs.Added.{atoms_in}
use Rattle.kp_tags_modes.proofs.atoms.atoms_in.Given as goal

abbrev pub invariant-loop-c : goal.invariant-loop-c
invariant-loop-c l = l.set ≡ atoms_in (take l.c-index l.clauses)
