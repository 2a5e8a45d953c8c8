use Rattle.std.proofs.Common.{◌≡◌, drop, fold}
use Rattle.kp_clauses.specs.Resolved.{with_unless}
use Rattle.kp_clauses.proofs.clause.add_others.Given as goal

-- the rest goes on from the set so far
abbrev pub invariant-loop-l : goal.invariant-loop-l
invariant-loop-l l = fold (with_unless l.out) l.set (drop l.l-index l.lits) ≡ fold (with_unless l.out) l.fn.set l.lits
