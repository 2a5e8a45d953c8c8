-- How much of what a reader has left is read. For the private functions of the edge.
use Rattle.std.specs.Prelude.{ℕ, ◌≤◌, List, length, Option}
use Rattle.std.specs.Io.KnownBytes.{Consumes}

-- of what was left, where the reader tells it, no more than n bytes are gone
abbrev pub TakesAtMost : ℕ → Option (List ℕ) → Option (List ℕ) → Type 0
TakesAtMost n old new = (bs : List ℕ) × (length bs ≤ n) × Consumes old new bs
