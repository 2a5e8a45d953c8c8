use Rattle.std.proofs.Common.{ap}
use Rattle.std.specs.Int.{bit_at}
use Rattle.std.proofs.lemmas.Bool.{eqb-true, eq-eqb}
use Rattle.std.proofs.lemmas.Nat.Bits.{same_from_bits_below}
use Rattle.kp_bits.proofs.words.same_word.Goals as goal

pub returns : goal.returns
returns c =
    let w = c.args.word in
    let o = c.args.other in
    (λ h j l. ap (λ x. bit_at x j) (eqb-true w o h), λ f. eq-eqb w o (same_from_bits_below 64 w o c.ranges.word.fits c.ranges.other.fits f))
