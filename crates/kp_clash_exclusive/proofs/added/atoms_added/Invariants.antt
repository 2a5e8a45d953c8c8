use Rattle.std.proofs.Common.{◌≡◌, true, take}
use Rattle.kp_clash_exclusive.specs.Left.{all_added}
use Rattle.kp_clash_exclusive.proofs.added.atoms_added.Given as goal

-- the atoms of the effects so far
abbrev pub invariant-loop-effect : goal.invariant-loop-effect
invariant-loop-effect l = all_added l.words (take l.effect-index l.effects) ≡ true
