use Rattle.std.proofs.Common.{◌≡◌, ◌<◌, ◌≤◌, ◌+◌, ◌%◌, ◌^◌, ℕ, w64, bit_xor, ap, sym, ◌∙◌, ⊎_elim, arith}
use Rattle.std.specs.Int.{bit_at, trailing_zeros}
use Rattle.std.proofs.lemmas.Bool.{cases_lt}
use Rattle.std.proofs.lemmas.Nat.{xor_lt}
use Rattle.std.proofs.lemmas.Nat.Bits.{bit_at_xor, bit_at-lt, bit_at-zero, bit_at-trailing_zeros, same_from_bits_below}
use Rattle.kp_bits.proofs.words.first_other_bit.Goals as goal

even_is_same : (a b : ℕ) → a < 2 → b < 2 → (a + b) % 2 ≡ 0 → a ≡ b
even_is_same a b h k e = omega arith

odd_is_other : (a b : ℕ) → a < 2 → (a + b) % 2 ≡ 1 → a ≡ b → ⊥
odd_is_other a b h e same = omega arith

module _ (w o : ℕ) (fits : w < 2 ^ 64) (fits_too : o < 2 ^ 64) (differ : w ≡ o → ⊥) where
  bit_same : (j : ℕ) → bit_at (bit_xor w o) j ≡ 0 → bit_at w j ≡ bit_at o j
  bit_same j e = even_is_same _ _ (bit_at-lt w j) (bit_at-lt o j) (sym (bit_at_xor w o j) ∙ e)

  -- some bit differs
  some : 0 < bit_xor w o
  some = ⊎_elim (λ h. h) (λ h. absurd (differ (same_from_bits_below 64 w o fits fits_too (λ j l. bit_same j (ap (λ y. bit_at y j) (none h) ∙ bit_at-zero j))))) (cases_lt 0 (bit_xor w o))
    where
      none : bit_xor w o ≤ 0 → bit_xor w o ≡ 0
      none h = omega arith

  lowest : (trailing_zeros w64 (bit_xor w o) < 64) × (bit_at (bit_xor w o) (trailing_zeros w64 (bit_xor w o)) ≡ 1) × ((i : ℕ) → i < trailing_zeros w64 (bit_xor w o) → bit_at (bit_xor w o) i ≡ 0)
  lowest = bit_at-trailing_zeros w64 (bit_xor w o) some (xor_lt 64 w o fits fits_too)

pub returns : goal.returns
returns c =
    let w = c.args.word in
    let o = c.args.other in
    let low = lowest w o c.ranges.word.fits c.ranges.other.fits c.requires in
    record {
      in_range = low.0;
      differ = odd_is_other _ _ (bit_at-lt w _) (sym (bit_at_xor w o _) ∙ low.1);
      same_before = λ j l. bit_same w o c.ranges.word.fits c.ranges.other.fits c.requires j (low.2 j l);
    }
