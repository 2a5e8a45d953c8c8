-- A state as a row of truth values. This file serves proofs alone.
use Rattle.std.specs.Prelude.{ℕ, Bool, false, List, length, slice_index_or}
use Rattle.kp_classic.specs.States.{FactSet, fact_set_of}

-- whether a place of the row is true
abbrev pub bit : List Bool → ℕ → Bool
bit bits i = slice_index_or bits i false

-- the state of a row
abbrev pub set_of : List Bool → FactSet
set_of bits = fact_set_of (length bits) (bit bits)
