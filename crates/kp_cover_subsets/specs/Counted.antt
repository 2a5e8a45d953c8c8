-- Numbers of sets, row by row. This file serves proofs alone.
use Rattle.std.specs.Prelude.{◌≡◌, ◌<◌, ◌+◌, ℕ, List, length, get_or}
use Rattle.kp_cover_subsets.specs.Subsets.{choose, capped}

-- the numbers of sets of 0, 1, 2 .. elements of n
pub record IsPascal (n : ℕ) (row : List ℕ) : Type 0 where
  pub each : (k : ℕ) → k < length row → get_or row k 0 ≡ capped (choose n k)

-- from the numbers of sets of n elements to those of one more
pub record IsNext (old new : List ℕ) : Type 0 where
  pub long : length new ≡ length old
  pub first : 0 < length old → get_or new 0 0 ≡ get_or old 0 0
  pub each : (k : ℕ) → k + 1 < length old → get_or new (k + 1) 0 ≡ capped (get_or old (k + 1) 0 + get_or old k 0)
