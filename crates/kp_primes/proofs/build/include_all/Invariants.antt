use Rattle.std.proofs.Common.{◌≡◌}
use Rattle.kp_primes.specs.Included.{AreCounted}
use Rattle.kp_primes.specs.Placed.{AreHolders}
use Rattle.kp_primes.proofs.build.include_all.Given as goal

abbrev pub invariant-loop-c : goal.invariant-loop-c
invariant-loop-c l = record { held : AreHolders l.holders l.store; number : l.prefix ≡ l.c-index; counted : AreCounted l.clauses l.limit l.c-index l.store }
