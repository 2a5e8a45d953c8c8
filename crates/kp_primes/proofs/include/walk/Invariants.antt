use Rattle.std.proofs.Common.{drop}
use Rattle.kp_primes.specs.Included.{walked}
use Rattle.kp_primes.proofs.Growing.{LeadsTo}
use Rattle.kp_primes.proofs.include.walk.Given as goal

-- the rest of the literals goes on from the new clauses so far
abbrev pub invariant-loop-l : goal.invariant-loop-l
invariant-loop-l l = LeadsTo l.primes (drop l.l-index l.lits) l.news (walked l.primes l.lits l.fn.news)
