use Rattle.std.proofs.Common.{◌≡◌, ◌++◌}
use Rattle.kp_clauses.proofs.store.Store.join.Given as goal

-- with the clauses still to come there are all of both stores
abbrev pub invariant-loop-c : goal.invariant-loop-c
invariant-loop-c l = l.self ++ l.c-iterator.rest.items ≡ l.fn.self ++ l.fn.other
