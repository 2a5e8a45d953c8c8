use Rattle.std.proofs.Common.{◌∙◌, ap, rules}
use Rattle.std.specs.Int.{bit_at}
use Rattle.kp_bits.proofs.Packing.{in_row, word_there, word_read, changed_row, changed_packed}
use Rattle.kp_bits.proofs.bits.Bits.set.Goals as goal

-- the word of the bit is there
pub index-requires : goal.index-requires
index-requires c =
    let there = word_there _ _ c.args.i c.self.invariant (in_row _ c.self.inside.words.items c.args.i _ c.self.view_is c.requires) in
    search (rules, there)

pub index_mut-requires : goal.index_mut-requires
index_mut-requires c =
    let there = word_there _ _ c.args.i c.self.invariant (in_row _ c.self.inside.words.items c.args.i _ c.self.view_is c.requires) in
    search (rules, there)

-- only this bit changes
pub invariant_of-self : goal.invariant_of-self
invariant_of-self c =
    let in_range = in_row _ c.self.inside.words.items c.args.i _ c.self.view_is c.requires in
    let word = word_read _ _ c.args.i _ c.self.invariant in_range c.index.ensures in
    changed_packed _ c.self.inside.words.items c.args.i c.with_bit.result 1 c.self.invariant in_range
    (c.with_bit.ensures.set, λ j l ne. c.with_bit.ensures.others j ne ∙ ap (λ x. bit_at x j) word)

pub returns : goal.returns
returns c =
    let in_range = in_row _ c.self.inside.words.items c.args.i _ c.self.view_is c.requires in
    let word = word_read _ _ c.args.i _ c.self.invariant in_range c.index.ensures in
    rw (← c.self.view_is)
    (changed_row _ c.self.inside.words.items c.args.i c.with_bit.result 1 c.self.invariant in_range
    (c.with_bit.ensures.set, λ j l ne. c.with_bit.ensures.others j ne ∙ ap (λ x. bit_at x j) word))
