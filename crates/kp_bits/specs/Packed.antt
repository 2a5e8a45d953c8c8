-- How a row of bits lies in words. Beside proofs it serves the contracts that cite `bit_in`.
use Rattle.std.specs.Prelude.{◌≡◌, ◌≤◌, ◌<◌, ◌+◌, ◌*◌, ◌/◌, ◌%◌, ℕ, Bool, false, List, length, map, nat_eq, slice_index_or}
use Rattle.std.specs.Int.{bit_at}
use Rattle.std.specs.List.{range_with_len}

-- bit i, 64 to a word
abbrev pub bit_in : List ℕ → ℕ → ℕ
bit_in ws i = bit_at (slice_index_or ws (i / 64) 0) (i % 64)

-- whether it is set
abbrev pub bit_of : List ℕ → ℕ → Bool
bit_of ws i = nat_eq (bit_in ws i) 1

-- the first n bits
abbrev pub bits_of : ℕ → List ℕ → List Bool
bits_of n ws = map (bit_of ws) (range_with_len 0 n)

-- there are as many words as n bits need, and no bit from n on is set
pub record IsPacked (n : ℕ) (ws : List ℕ) : Type 0 where
  pub enough : n ≤ 64 * length ws
  pub no_more : 64 * length ws < n + 64
  pub clear_past : (i : ℕ) → n ≤ i → bit_of ws i ≡ false
