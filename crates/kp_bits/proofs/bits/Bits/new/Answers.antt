use Rattle.std.proofs.Common.{◌∙◌, ap}
use Rattle.kp_bits.specs.Packed.{bits_of}
use Rattle.kp_bits.proofs.Packing.{zeros}
use Rattle.kp_bits.proofs.bits.Bits.new.Goals as goal

pub returns : goal.returns
returns c = ap (bits_of c.args.n) (c.in_ok-words.ensures.items_if_clones_equal (λ y e. e)) ∙ zeros c.args.n c.div_ceil.result
