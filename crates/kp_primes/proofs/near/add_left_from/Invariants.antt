use Rattle.std.proofs.Common.{◌≡◌, drop, fold, slice_get}
use Rattle.kp_primes.specs.Asked.{with_left_at, with_left_from}
use Rattle.kp_primes.proofs.near.add_left_from.Given as goal

-- the rest goes on from what came of the clauses so far
abbrev pub invariant-loop-place : goal.invariant-loop-place
invariant-loop-place l = fold (λ s i. with_left_at l.tag l.lit s (slice_get l.clauses i)) l.set (drop l.place-index l.places) ≡ with_left_from l.clauses l.holders l.tag l.fn.set l.lit
