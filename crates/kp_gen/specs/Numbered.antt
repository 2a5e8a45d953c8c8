-- Lines that differ in one number. This file serves proofs alone.
use Rattle.std.specs.Prelude.{ℕ, List, ◌++◌, decimal}

-- a number with what stands in front of it and behind it
abbrev pub numbered : List ℕ → List ℕ → ℕ → List ℕ
numbered front behind number = front ++ (decimal number ++ behind)
