use Rattle.std.proofs.Common.{◌*◌}
use Rattle.kp_clash_exclusive.specs.Starting.{IsMarkedWith}
use Rattle.kp_clash_exclusive.proofs.Starting.{with_below}
use Rattle.kp_clash_exclusive.proofs.start.mark_all.Given as goal

-- the pairs with the atoms of the words so far
abbrev pub invariant-loop-k : goal.invariant-loop-k
invariant-loop-k l = IsMarkedWith l.atoms (with_below l.p (l.k * 64)) l.fn.table l.table
