use Rattle.std.proofs.Common.{◌≡◌, drop, fold}
use Rattle.kp_primes.specs.Asked.{with_left}
use Rattle.kp_primes.proofs.ask.add_all_left.Given as goal

-- the rest goes on from what came of the clauses so far
abbrev pub invariant-loop-c : goal.invariant-loop-c
invariant-loop-c l = fold (with_left l.tag) l.set (drop l.c-index l.clauses) ≡ fold (with_left l.tag) l.fn.set l.clauses
