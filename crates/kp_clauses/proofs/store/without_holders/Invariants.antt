use Rattle.std.proofs.Common.{◌≡◌, ◌++◌, filter, not}
use Rattle.kp_clauses.specs.Stored.{subsumed}
use Rattle.kp_clauses.proofs.store.without_holders.Given as goal

-- the rest goes on from the clauses so far
abbrev pub invariant-loop-d : goal.invariant-loop-d
invariant-loop-d l = l.others ++ filter (λ d. not (subsumed l.held d)) l.d-iterator.rest.items ≡ filter (λ d. not (subsumed l.held d)) l.fn.clauses.items
