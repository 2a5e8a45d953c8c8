use Rattle.std.proofs.Common.{◌≡◌, true, take}
use Rattle.kp_clash_exclusive.specs.Left.{all_asked}
use Rattle.kp_clash_exclusive.proofs.asked.atoms_asked.Given as goal

-- the atoms of the literals so far
abbrev pub invariant-loop-lit : goal.invariant-loop-lit
invariant-loop-lit l = all_asked l.words (take l.lit-index l.lits) ≡ true
