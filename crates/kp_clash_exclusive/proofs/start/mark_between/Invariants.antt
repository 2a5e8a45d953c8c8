use Rattle.kp_clash_exclusive.specs.Starting.{between, IsMarkedWith}
use Rattle.kp_clash_exclusive.proofs.start.mark_between.Given as goal

-- the pairs with the atoms so far
abbrev pub invariant-loop-q : goal.invariant-loop-q
invariant-loop-q l = IsMarkedWith l.atoms (between l.p l.fn.from l.q) l.fn.table l.table
