use Rattle.std.proofs.Common.{length, ap, sym, ◌∙◌}
use Rattle.kp_bits.proofs.Packing.{length-bits_of}
use Rattle.kp_bits.proofs.bits.Bits.len.Goals as goal

pub returns : goal.returns
returns c = sym (length-bits_of c.self.inside.count c.self.inside.words.items) ∙ ap length c.self.view_is
