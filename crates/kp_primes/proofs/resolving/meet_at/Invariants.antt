use Rattle.std.proofs.Common.{◌≡◌, drop}
use Rattle.kp_primes.specs.Placed.{met_at}
use Rattle.kp_primes.proofs.resolving.meet_at.Given as goal

-- the rest goes on from what is new so far
abbrev pub invariant-loop-place : goal.invariant-loop-place
invariant-loop-place l = met_at l.primes l.news l.e l.lit (drop l.place-index l.at) l.fresh ≡ met_at l.primes l.news l.e l.lit l.at l.fn.fresh
