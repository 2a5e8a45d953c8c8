use Rattle.std.proofs.Common.{◌-◌, ap, ◌∙◌, bit_and}
use Rattle.std.proofs.lemmas.Nat.{and_mask, one_shl}
use Rattle.std.specs.Int.RustNames.{count_ones}
use Rattle.kp_bits.proofs.words.ones_below.Goals as goal

-- the mask has the first k bits
pub returns : goal.returns
returns c = ap (λ m. count_ones (bit_and c.args.word (m - 1))) (one_shl c.args.k 64 c.requires) ∙ ap count_ones (and_mask c.args.word c.args.k)
