use Rattle.kp_clash_exclusive.specs.Paired.{is_pair}
use Rattle.kp_clash_exclusive.specs.Left.{AreLone}
use Rattle.kp_clash_exclusive.proofs.lone.atoms_alone.Given as goal

-- no pair has those that are set so far
abbrev pub invariant-loop-p : goal.invariant-loop-p
invariant-loop-p l = AreLone (is_pair l.pairs) l.words
