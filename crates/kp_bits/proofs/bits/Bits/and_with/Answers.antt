use Rattle.std.proofs.Common.{◌≡◌, ◌∙◌, length, ap, sym, subst}
use Rattle.std.specs.Int.RustNames.{bit_and}
use Rattle.std.specs.Vec.{with_items}
use Rattle.std.proofs.lemmas.List.{with_items_is}
use Rattle.kp_bits.specs.Packed.{bits_of, IsPacked}
use Rattle.kp_bits.proofs.Packing.{same_size, same_count, made_from, and_does, made_row, made_packed}
use Rattle.kp_bits.proofs.bits.Bits.and_with.Goals as goal

-- both rows have as many words
pub and_words-requires : goal.and_words-requires
and_words-requires c =
    let size = same_size _ _ c.self.inside.words.items c.other.inside.words.items _ _ c.self.view_is c.other.view_is c.requires in
    let count = same_count _ _ _ _ c.self.invariant c.other.invariant size in
    ap length c.deref_mut.ensures.value ∙ (count ∙ sym (ap length c.deref.ensures.value))

pub invariant_of-self : goal.invariant_of-self
invariant_of-self c =
    let size = same_size _ _ c.self.inside.words.items c.other.inside.words.items _ _ c.self.view_is c.other.view_is c.requires in
    let words = c.and_words.new.words in
    let written : (with_items c.self.inside.words words).items ≡ words = with_items_is c.self.inside.words words (c.and_words.ensures.len ∙ c.deref_mut.ensures.len) in
    subst (λ xs. IsPacked c.self.inside.count xs) (sym written)
    (made_packed _ _ and_does _ _ c.self.inside.words.items c.other.inside.words.items words size c.self.invariant c.other.invariant
    (made_from bit_and _ _ words _ _ c.deref_mut.ensures.value c.deref.ensures.value (c.and_words.ensures.len, c.and_words.ensures.each)))

pub returns : goal.returns
returns c =
    let size = same_size _ _ c.self.inside.words.items c.other.inside.words.items _ _ c.self.view_is c.other.view_is c.requires in
    let count = same_count _ _ _ _ c.self.invariant c.other.invariant size in
    let words = c.and_words.new.words in
    let written : (with_items c.self.inside.words words).items ≡ words = with_items_is c.self.inside.words words (c.and_words.ensures.len ∙ c.deref_mut.ensures.len) in
    rw (← c.self.view_is, ← c.other.view_is)
    (ap (bits_of c.self.inside.count) written
    ∙ made_row _ _ and_does _ _ c.self.inside.words.items c.other.inside.words.items words size count
    (made_from bit_and _ _ words _ _ c.deref_mut.ensures.value c.deref.ensures.value (c.and_words.ensures.len, c.and_words.ensures.each)))
