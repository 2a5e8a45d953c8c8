use Rattle.std.proofs.Common.{◌≡◌, drop, fold}
use Rattle.kp_clauses.specs.Sieved.{narrowed}
use Rattle.kp_clauses.proofs.sieve.narrow_by.Given as goal

-- the rest goes on from the set so far
abbrev pub invariant-loop-s : goal.invariant-loop-s
invariant-loop-s l = fold (narrowed l.clauses l.c l.word) l.set (drop l.s-index l.spots) ≡ fold (narrowed l.clauses l.c l.word) l.fn.set l.spots
