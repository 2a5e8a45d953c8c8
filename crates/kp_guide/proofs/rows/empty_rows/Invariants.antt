use Rattle.std.proofs.Common.{◌≡◌, ℕ, [], length}
use Rattle.kp_guide.specs.Waiting.{row}
use Rattle.kp_guide.proofs.rows.empty_rows.Given as goal

abbrev pub invariant-loop : goal.invariant-loop
invariant-loop l = (length l.rows.items ≡ l.counter) × ((f : ℕ) → row l.rows.items f ≡ [])
