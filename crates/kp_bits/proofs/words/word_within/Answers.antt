use Rattle.std.proofs.Common.{◌≡◌, ◌<◌, ℕ, zero, suc, max, bit_or, refl, ap, ◌∙◌, arith}
use Rattle.std.specs.Int.{bit_at}
use Rattle.std.proofs.lemmas.Bool.{eqb-true, eq-eqb}
use Rattle.std.proofs.lemmas.Nat.{or_lt}
use Rattle.std.proofs.lemmas.Nat.Bits.{bit_at_or, bit_at-lt, same_from_bits_below}
use Rattle.kp_bits.proofs.words.word_within.Goals as goal

max_keeps : (x y : ℕ) → x < 2 → y < 2 → (x ≡ 1 → y ≡ 1) → max x y ≡ y
max_keeps zero y _ _ _ = omega arith
max_keeps (suc zero) zero _ _ f = absurd (omega (arith, f refl))
max_keeps (suc zero) (suc zero) _ _ _ = omega arith
max_keeps (suc (suc x)) y h _ _ = absurd (omega (arith, h))
max_keeps (suc zero) (suc (suc y)) _ h _ = absurd (omega (arith, h))

pub returns : goal.returns
returns c =
    let w = c.args.word in
    let o = c.args.other in (
      λ h j l one. let e = ap (λ x. bit_at x j) (eqb-true (bit_or w o) o h) in omega (arith, bit_at_or w o j, bit_at-lt o j),
      λ f. eq-eqb (bit_or w o) o (same_from_bits_below 64 (bit_or w o) o (or_lt 64 w o c.ranges.word.fits c.ranges.other.fits) c.ranges.other.fits (λ j l. low j l f)),
    )
  where
    low : (j : ℕ) → j < 64 → ((j : ℕ) → j < 64 → bit_at c.args.word j ≡ 1 → bit_at c.args.other j ≡ 1) → bit_at (bit_or c.args.word c.args.other) j ≡ bit_at c.args.other j
    low j l f = bit_at_or c.args.word c.args.other j ∙ max_keeps _ _ (bit_at-lt c.args.word j) (bit_at-lt c.args.other j) (f j l)
