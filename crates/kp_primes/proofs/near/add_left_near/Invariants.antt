use Rattle.std.proofs.Common.{◌≡◌, drop, fold}
use Rattle.kp_base.specs.Lit.{negated}
use Rattle.kp_primes.specs.Asked.{with_left_from, with_left_near}
use Rattle.kp_primes.proofs.near.add_left_near.Given as goal

-- the rest goes on from what came of the literals so far
abbrev pub invariant-loop-l : goal.invariant-loop-l
invariant-loop-l l = fold (λ s x. with_left_from l.clauses l.holders l.tag s (negated x)) l.set (drop l.l-index l.lits) ≡ with_left_near l.clauses l.holders l.tag l.fn.set
