use Rattle.std.proofs.Common.{◌≡◌, [], drop, fold}
use Rattle.kp_clauses.specs.Rests.{with_outside}
use Rattle.kp_clauses.proofs.rests.rest.Given as goal

-- the others go on from the set so far
abbrev pub invariant-loop-x : goal.invariant-loop-x
invariant-loop-x l = fold (with_outside l.e l.lit) l.set (drop l.x-index l.lits) ≡ fold (with_outside l.e l.lit) [] l.lits
