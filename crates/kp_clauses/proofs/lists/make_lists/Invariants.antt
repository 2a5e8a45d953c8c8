use Rattle.std.proofs.Common.{◌≡◌, ℕ, length}
use Rattle.kp_clauses.specs.Listed.{row}
use Rattle.kp_clauses.proofs.lists.make_lists.Given as goal

-- empty lists come behind
abbrev pub invariant-loop : goal.invariant-loop
invariant-loop _ l = record { same : (k : ℕ) → row l.lists.items k ≡ row l.fn.lists.items k; long : length l.lists.items ≡ l.counter }
