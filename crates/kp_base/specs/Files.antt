-- How large a file may be.
use Rattle.std.specs.Prelude.{ℕ}

-- the most bytes that are read of a file
abbrev pub most_bytes : ℕ
most_bytes = 16777216
