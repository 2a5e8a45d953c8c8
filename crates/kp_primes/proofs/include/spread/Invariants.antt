use Rattle.std.proofs.Common.{◌≡◌, drop}
use Rattle.kp_primes.specs.Included.{spread}
use Rattle.kp_primes.proofs.include.spread.Given as goal

-- the rest goes on from what is new so far
abbrev pub invariant-loop-e : goal.invariant-loop-e
invariant-loop-e l = spread l.primes l.news l.lit (drop l.e-index l.news) l.fresh ≡ spread l.primes l.news l.lit l.news l.fn.fresh
