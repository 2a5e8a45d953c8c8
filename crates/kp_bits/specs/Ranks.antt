-- How many bits of a row are set before a place.
use Rattle.std.specs.Prelude.{◌≡◌, ◌<◌, ◌+◌, ◌*◌, ℕ, zero, suc, Bool, cond, List, [], ◌∷◌, length, get_or}

-- how many of the first i bits are set
abbrev pub trues_before : List Bool → ℕ → ℕ
trues_before [] i = 0
trues_before (b ∷ bs) zero = 0
trues_before (b ∷ bs) (suc i) = cond b 1 0 + trues_before bs i

-- the counts of the bits that are set before each 64th place, of a row whose length a `u32` holds
pub record AreCounts (row : List Bool) (before : List ℕ) : Type 0 where
  pub few : length row < 4294967296
  pub enough : length row < 64 * length before
  pub each : (k : ℕ) → k < length before → get_or before k 0 ≡ trues_before row (k * 64)
