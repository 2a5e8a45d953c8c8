use Rattle.std.proofs.Common.{◌≤◌, ◌*◌, ◌∙◌, length, ap, sym, arith}
use Rattle.std.specs.Int.{bit_at}
use Rattle.std.proofs.lemmas.Grind.{get_or_default_zero}
use Rattle.kp_bits.proofs.Packing.{length-bits_of, same_size, same_word_more, same_rows, difference_is_first}
use Rattle.kp_bits.proofs.bits.Bits.first_difference.Goals as goal

pub loop-k-init : goal.loop-k-init
loop-k-init c = λ i h. absurd (omega arith)

-- the other row has as many words
pub index-there-requires : goal.index-there-requires
index-there-requires c =
    let size = same_size _ _ c.self.inside.words.items c.other.inside.words.items _ _ c.self.view_is c.other.view_is c.requires in
    let e = c.other.invariant.enough in
    omega arith

-- the lowest bit in which the first two words that differ do is the first
pub returns-then-here-there-clause-some : goal.returns-then-here-there-clause-some
returns-then-here-there-clause-some c =
    let ws = c.self.inside.words.items in
    let vs = c.other.inside.words.items in
    let size = same_size _ _ ws vs _ _ c.self.view_is c.other.view_is c.requires in
    let a = c.self.invariant.enough in
    let b = c.other.invariant.enough in
    let here = c.index-here.ensures ∙ get_or_default_zero ws c.loop-k.k _ (omega arith) in
    let there = c.index-there.ensures ∙ get_or_default_zero vs c.loop-k.k _ (omega arith) in
    let j = c.first_other_bit.result in
    rw (← c.self.view_is, ← c.other.view_is) (difference_is_first _ _ ws vs size c.self.invariant c.other.invariant c.loop-k.k j
    c.first_other_bit.ensures.in_range
    (λ e. c.first_other_bit.ensures.differ (ap (λ w. bit_at w j) here ∙ (e ∙ ap (λ w. bit_at w j) (sym there))))
    (rw (← c.self.view_is, ← c.other.view_is) at c.loop-k.invariant)
    (λ i l. ap (λ w. bit_at w i) (sym here) ∙ (c.first_other_bit.ensures.same_before i l ∙ ap (λ w. bit_at w i) there)))

-- one more word is the same
pub loop-k-preserved : goal.loop-k-preserved
loop-k-preserved c =
    let ws = c.self.inside.words.items in
    let vs = c.other.inside.words.items in
    let size = same_size _ _ ws vs _ _ c.self.view_is c.other.view_is c.requires in
    let a = c.self.invariant.enough in
    let b = c.other.invariant.enough in
    let here = c.index-here.ensures ∙ get_or_default_zero ws c.loop-k.k _ (omega arith) in
    let there = c.index-there.ensures ∙ get_or_default_zero vs c.loop-k.k _ (omega arith) in
    rw (← c.self.view_is, ← c.other.view_is) (same_word_more _ _ ws vs size c.loop-k.k (sym here ∙ (c.if-here-there.false ∙ there)) (rw (← c.self.view_is, ← c.other.view_is) at c.loop-k.invariant))

-- all words are the same
pub returns-clause-none : goal.returns-clause-none
returns-clause-none c =
    let long : length c.args.self.now ≤ c.loop-k.k * 64 = (let e = sym (ap length c.self.view_is) ∙ length-bits_of c.self.inside.count c.self.inside.words.items in omega arith) in
    same_rows _ _ (c.loop-k.k * 64) c.requires long c.loop-k.invariant
