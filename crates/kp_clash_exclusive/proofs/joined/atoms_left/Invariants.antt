use Rattle.kp_clash_exclusive.specs.Paired.{is_pair}
use Rattle.kp_clash_exclusive.specs.Left.{AreLeft}
use Rattle.kp_clash_exclusive.proofs.joined.atoms_left.Given as goal

-- no other bit was cleared
abbrev pub invariant-loop-k : goal.invariant-loop-k
invariant-loop-k l = AreLeft (is_pair l.pairs) l.action.pre l.effect.cond l.words
