use Rattle.std.proofs.Common.{◌∙◌, length, ap, sym}
use Rattle.kp_bits.proofs.Packing.{same_size, same_count, row_of_words, words_of_row}
use Rattle.kp_bits.proofs.bits.Bits.equal.Goals as goal

-- both rows have as many words
pub same_words-requires : goal.same_words-requires
same_words-requires c =
    let size = same_size _ _ c.self.inside.words.items c.other.inside.words.items _ _ c.self.view_is c.other.view_is c.requires in
    let count = same_count _ _ _ _ c.self.invariant c.other.invariant size in
    ap length c.deref.ensures.value ∙ (count ∙ sym (ap length c.deref-2.ensures.value))

pub returns : goal.returns
returns c =
    let size = same_size _ _ c.self.inside.words.items c.other.inside.words.items _ _ c.self.view_is c.other.view_is c.requires in
    let words = rw (c.deref.ensures.value, c.deref-2.ensures.value) at c.same_words.ensures in
    rw (← c.self.view_is, ← c.other.view_is) (
      λ h. row_of_words _ _ c.self.inside.words.items c.other.inside.words.items size c.self.invariant (words.0 h),
      λ h. words.1 (words_of_row _ _ c.self.inside.words.items c.other.inside.words.items size c.self.invariant c.other.invariant h),
    )
