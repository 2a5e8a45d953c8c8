use Rattle.std.proofs.Common.{◌≡◌, drop}
use Rattle.kp_primes.specs.Asked.{first_left}
use Rattle.kp_primes.proofs.ask.first_left.Given as goal

-- the literals so far are denied
abbrev pub invariant-loop-x : goal.invariant-loop-x
invariant-loop-x l = first_left l.tag (drop l.x-index l.c) ≡ first_left l.tag l.c
