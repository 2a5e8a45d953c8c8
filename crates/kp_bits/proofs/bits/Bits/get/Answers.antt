use Rattle.std.proofs.Common.{◌∙◌, ◌%◌, Some, ap, sym, rules}
use Rattle.std.specs.Int.{bit_at}
use Rattle.std.proofs.lemmas.Bool.{eqb-true, eq-eqb}
use Rattle.kp_base.proofs.Lists.{bool_same}
use Rattle.kp_bits.specs.Packed.{bit_of}
use Rattle.kp_bits.proofs.Packing.{in_row, word_there, word_read, slice_get-bits_of}
use Rattle.kp_bits.proofs.bits.Bits.get.Goals as goal

-- the word of the bit is there
pub index-requires : goal.index-requires
index-requires c =
    let there = word_there _ _ c.args.i c.self.invariant (in_row _ c.self.inside.words.items c.args.i _ c.self.view_is c.requires) in
    search (rules, there)

pub returns : goal.returns
returns c =
    let in_range = in_row _ c.self.inside.words.items c.args.i _ c.self.view_is c.requires in
    let word = word_read _ _ c.args.i _ c.self.invariant in_range c.index.ensures in
    rw (← c.self.view_is)
    (slice_get-bits_of _ c.self.inside.words.items c.args.i in_range
    ∙ ap Some (bool_same (bit_of c.self.inside.words.items c.args.i) c.has_bit.result
    (λ h. c.has_bit.ensures.1 (ap (λ x. bit_at x (c.args.i % 64)) word ∙ eqb-true _ 1 h))
    (λ h. eq-eqb _ 1 (ap (λ x. bit_at x (c.args.i % 64)) (sym word) ∙ c.has_bit.ensures.0 h))))
