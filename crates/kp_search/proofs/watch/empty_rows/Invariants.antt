use Rattle.std.proofs.Common.{◌≡◌, ℕ, [], length}
use Rattle.kp_search.specs.Watched.{row}
use Rattle.kp_search.proofs.watch.empty_rows.Given as goal

abbrev pub invariant-loop : goal.invariant-loop
invariant-loop l = (length l.rows.items ≡ l.counter) × ((place : ℕ) → row l.rows.items place ≡ [])
