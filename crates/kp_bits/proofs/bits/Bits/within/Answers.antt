use Rattle.std.proofs.Common.{◌∙◌, length, ap, sym}
use Rattle.kp_bits.proofs.Packing.{same_size, same_count, within_of_words, words_of_within}
use Rattle.kp_bits.proofs.bits.Bits.within.Goals as goal

-- both rows have as many words
pub words_within-requires : goal.words_within-requires
words_within-requires c =
    let size = same_size _ _ c.self.inside.words.items c.other.inside.words.items _ _ c.self.view_is c.other.view_is c.requires in
    let count = same_count _ _ _ _ c.self.invariant c.other.invariant size in
    ap length c.deref.ensures.value ∙ (count ∙ sym (ap length c.deref-2.ensures.value))

pub returns : goal.returns
returns c =
    let size = same_size _ _ c.self.inside.words.items c.other.inside.words.items _ _ c.self.view_is c.other.view_is c.requires in
    let words = rw (c.deref.ensures.value, c.deref-2.ensures.value) at c.words_within.ensures in
    rw (← c.self.view_is, ← c.other.view_is) (
      λ h. within_of_words _ _ c.self.inside.words.items c.other.inside.words.items size c.self.invariant (words.0 h),
      λ h. words.1 (words_of_within _ _ c.self.inside.words.items c.other.inside.words.items size c.self.invariant h),
    )
