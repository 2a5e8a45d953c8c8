use Rattle.std.proofs.Common.{◌≡◌, drop, fold}
use Rattle.kp_primes.specs.Placed.{rarer}
use Rattle.kp_primes.proofs.holders.rarest.Given as goal

-- the rest goes on from the one so far
abbrev pub invariant-loop-l : goal.invariant-loop-l
invariant-loop-l l = fold (rarer l.holders) l.best (drop l.l-index l.lits) ≡ fold (rarer l.holders) l.fn.first l.lits
