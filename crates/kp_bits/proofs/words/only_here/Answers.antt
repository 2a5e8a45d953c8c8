use Rattle.std.proofs.Common.{◌≡◌, ◌<◌, ◌-◌, ◌↔◌, ℕ, zero, suc, min, w64, refl, ap, sym, ◌∙◌, arith}
use Rattle.std.specs.Int.{bit_at}
use Rattle.std.proofs.lemmas.Nat.Bits.{bit_at_and, bit_at_not, bit_at-lt}
use Rattle.kp_bits.proofs.words.only_here.Goals as goal

one_and_not : (x y : ℕ) → x < 2 → y < 2 → (min x (1 - y) ≡ 1) ↔ ((x ≡ 1) × (y ≡ 0))
one_and_not x zero h k = (λ e. (omega (arith, e, h), refl), λ e. omega (arith, e.0))
one_and_not x (suc zero) h k = (λ e. absurd (omega (arith, e)), λ e. absurd (omega (arith, e.1)))
one_and_not x (suc (suc y)) h k = absurd (omega (arith, k))

pub returns : goal.returns
returns c = λ j l.
    let w = c.args.word in
    let o = c.args.other in
    let is = bit_at_and w _ j ∙ ap (min (bit_at w j)) (bit_at_not w64 o j c.ranges.other.fits l) in
    let both = one_and_not (bit_at w j) (bit_at o j) (bit_at-lt w j) (bit_at-lt o j) in
    (λ h. both.0 (sym is ∙ h), λ h. is ∙ both.1 h)
