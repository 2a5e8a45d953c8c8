use Rattle.std.proofs.Common.{take}
use Rattle.kp_clash_exclusive.specs.Paired.{is_pair}
use Rattle.kp_clash_exclusive.specs.Left.{KeepsFree}
use Rattle.kp_clash_exclusive.proofs.left.leave.Given as goal

-- what the literals so far leave
abbrev pub invariant-loop-lit : goal.invariant-loop-lit
invariant-loop-lit l = KeepsFree (is_pair l.pairs) (take l.lit-index l.lits) l.k l.fn.word l.left
