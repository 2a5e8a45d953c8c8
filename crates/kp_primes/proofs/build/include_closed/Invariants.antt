use Rattle.std.proofs.Common.{◌≡◌, drop, map}
use Rattle.kp_primes.specs.Included.{all_included, unit_of}
use Rattle.kp_primes.specs.Placed.{AreHolders}
use Rattle.kp_primes.proofs.build.include_closed.Given as goal

-- the rest goes on from the store so far
abbrev pub invariant-loop-p : goal.invariant-loop-p
invariant-loop-p l = record { held : AreHolders l.holders l.store; goes_on : all_included l.store (map unit_of (drop l.p-index l.closed)) ≡ all_included l.fn.store (map unit_of l.closed) }
