use Rattle.std.proofs.Common.{◌≡◌, ◌++◌, drop, filter, not}
use Rattle.kp_base.specs.Implicates.{is_within}
use Rattle.kp_clauses.proofs.store.copy_others.Given as goal

-- the rest goes on from the clauses so far
abbrev pub invariant-loop-d : goal.invariant-loop-d
invariant-loop-d l = l.others ++ filter (λ d. not (is_within l.c d)) (drop l.d-index l.clauses) ≡ filter (λ d. not (is_within l.c d)) l.clauses
