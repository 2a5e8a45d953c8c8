use Rattle.std.proofs.Common.{take}
use Rattle.kp_primes.specs.Placed.{AreHolders}
use Rattle.kp_primes.proofs.holders.Holders.extend.Given as goal

-- the clauses so far are listed
abbrev pub invariant-loop-i : goal.invariant-loop-i
invariant-loop-i l = AreHolders l.self (take l.i l.clauses)
