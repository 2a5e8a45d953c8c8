use Rattle.std.proofs.Common.{◌≡◌, take}
use Rattle.kp_tags_modes.specs.Added.{with_atoms}
use Rattle.kp_tags_modes.proofs.atoms.add_atoms.Given as goal

abbrev pub invariant-loop-l : goal.invariant-loop-l
invariant-loop-l l = l.set ≡ with_atoms l.fn.set (take l.l-index l.lits)
