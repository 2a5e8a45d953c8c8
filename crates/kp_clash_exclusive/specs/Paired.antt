-- Pairs of atoms as a list, and how they lie in a table of bits.
use Rattle.std.specs.Prelude.{◌≡◌, ◌≢◌, ◌<◌, ◌+◌, ◌*◌, ℕ, Bool, true, false, ◌&&◌, ◌||◌, List, filter, flat_map, length, map, nat_eq, nat_lt, slice_index_or}
use Rattle.std.specs.Int.{div_ceil}
use Rattle.std.specs.List.{list_any, range_with_len}
use Rattle.kp_base.specs.Clashes.{Pairs}

-- ---- in a list

-- the two atoms in this order, or in the other
abbrev pub are_both : ℕ → ℕ → ℕ × ℕ → Bool
are_both p q x = (nat_eq x.0 p && nat_eq x.1 q) || (nat_eq x.0 q && nat_eq x.1 p)

-- the list has the pair
abbrev pub is_pair : List (ℕ × ℕ) → Pairs
is_pair pairs p q = list_any (are_both p q) pairs

-- ---- in a table, which serves proofs alone

-- how many words of 64 bits a row of n bits takes
abbrev pub words_of : ℕ → ℕ
words_of n = div_ceil n 64

-- the place of the bit q of the row p, where each row begins a word
abbrev pub place_of : ℕ → ℕ → ℕ → ℕ
place_of n p q = p * (words_of n * 64) + q

-- whether the number q below n is marked in the row of p
abbrev pub is_marked : ℕ → List Bool → Pairs
is_marked n bits p q = nat_lt p n && (nat_lt q n && slice_index_or bits (place_of n p q) false)

-- all numbers below n with all others
abbrev pub all_below : ℕ → List (ℕ × ℕ)
all_below n = flat_map (λ p. map (λ q. (p, q)) (range_with_len 0 n)) (range_with_len 0 n)

-- the pairs that are marked, the smaller number first
abbrev pub marked : ℕ → List Bool → List (ℕ × ℕ)
marked n bits = filter (λ (x : ℕ × ℕ). nat_lt x.0 x.1 && is_marked n bits x.0 x.1) (all_below n)

-- a row of n bits for each number below n, and places that a `u32` counts; each pair is marked in both rows, and nothing else is
pub record IsSquare (n : ℕ) (bits : List Bool) : Type 0 where
  pub square : length bits ≡ n * (words_of n * 64)
  pub counted : n * (words_of n * 64) < 4294967296
  pub either_order : (p q : ℕ) → is_marked n bits p q ≡ is_marked n bits q p
  pub only : (p q : ℕ) → p < n → q < words_of n * 64 → slice_index_or bits (place_of n p q) false ≡ true → (q < n) × (p ≢ q)

-- one pair was written
pub record IsWritten (n : ℕ) (old new : List Bool) (p q : ℕ) (b : Bool) : Type 0 where
  pub square : IsSquare n new
  pub here : is_marked n new p q ≡ b
  pub others : (r s : ℕ) → are_both p q (r, s) ≡ false → is_marked n new r s ≡ is_marked n old r s
