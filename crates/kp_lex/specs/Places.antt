-- The place of a byte in a file.
use Rattle.std.specs.Prelude.{ℕ, ◌+◌, ◌==◌, List, take, count_by}
use Rattle.kp_base.specs.declared.refused.Part.{Part}
use Rattle.kp_base.specs.declared.refused.Place.{Place}

-- the line is one more than the line feeds before the byte
abbrev pub place_of : Part → List ℕ → ℕ → Place
place_of part text byte = record { part = part; line = 1 + count_by (λ b. b == 10) (take byte text); byte = byte }
