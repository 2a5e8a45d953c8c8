use Rattle.std.proofs.Common.{◌≡◌, drop, fold}
use Rattle.kp_clauses.specs.Sieved.{key_of, narrowed}
use Rattle.kp_clauses.specs.Listed.{row}
use Rattle.kp_clauses.proofs.sieve.narrow_by_literals.Given as goal

-- the rest goes on from the set so far
abbrev pub invariant-loop-l : goal.invariant-loop-l
invariant-loop-l l = fold (λ rest x. fold (narrowed l.clauses l.c l.word) rest (row l.lists (key_of x))) l.set (drop l.l-index l.lits) ≡ fold (λ rest x. fold (narrowed l.clauses l.c l.word) rest (row l.lists (key_of x))) l.fn.set l.lits
