use Rattle.std.proofs.Common.{◌≡◌, drop, fold}
use Rattle.kp_primes.specs.Asked.{with_below}
use Rattle.kp_primes.proofs.ask.add_below.Given as goal

-- the rest goes on from what came of the literals so far
abbrev pub invariant-loop-l : goal.invariant-loop-l
invariant-loop-l l = fold (with_below l.atoms) l.set (drop l.l-index l.lits) ≡ fold (with_below l.atoms) l.fn.set l.lits
