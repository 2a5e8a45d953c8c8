use Rattle.std.proofs.Common.{◌≡◌, ◌<◌, ℕ, zero, suc, min, bit_and, refl, ap, sym, ◌∙◌, arith}
use Rattle.std.specs.Int.{bit_at}
use Rattle.std.proofs.lemmas.Bool.{eqb-true, eq-eqb}
use Rattle.std.specs.Int.Bits.{and_lt}
use Rattle.std.proofs.lemmas.Nat.Bits.{bit_at_and, bit_at-lt, bit_at-zero, same_from_bits_below}
use Rattle.kp_bits.proofs.words.are_apart.Goals as goal

none_of_both : (x y : ℕ) → x < 2 → y < 2 → (x ≡ 1 → y ≡ 0) → min x y ≡ 0
none_of_both zero y _ _ _ = omega arith
none_of_both (suc zero) y _ _ f = let e = f refl in omega (arith, e)
none_of_both (suc (suc x)) y h _ _ = absurd (omega (arith, h))

pub returns : goal.returns
returns c =
    let w = c.args.word in
    let o = c.args.other in (
      λ h j l one. let e = sym (bit_at_and w o j) ∙ (ap (λ x. bit_at x j) (eqb-true (bit_and w o) 0 h) ∙ bit_at-zero j) in omega (arith, e, one, bit_at-lt o j),
      λ f. eq-eqb (bit_and w o) 0 (same_from_bits_below 64 (bit_and w o) 0 (and_lt 64 w o c.ranges.word.fits c.ranges.other.fits) (omega arith) (λ j l. low j l f)),
    )
  where
    low : (j : ℕ) → j < 64 → ((j : ℕ) → j < 64 → bit_at c.args.word j ≡ 1 → bit_at c.args.other j ≡ 0) → bit_at (bit_and c.args.word c.args.other) j ≡ bit_at 0 j
    low j l f = bit_at_and c.args.word c.args.other j ∙ (none_of_both _ _ (bit_at-lt c.args.word j) (bit_at-lt c.args.other j) (f j l) ∙ sym (bit_at-zero j))
