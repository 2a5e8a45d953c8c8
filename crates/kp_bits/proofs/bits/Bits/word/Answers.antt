use Rattle.std.proofs.Common.{get_or, ap, ◌∙◌}
use Rattle.kp_bits.proofs.Packing.{word_of_row}
use Rattle.kp_bits.proofs.bits.Bits.word.Goals as goal

pub returns : goal.returns
returns c = rw (← c.self.view_is)
    (word_of_row c.self.inside.count c.self.inside.words.items c.args.k c.word_at.result c.self.invariant
    (c.word_at.ensures ∙ ap (λ ws. get_or ws c.args.k 0) c.deref.ensures.value))
