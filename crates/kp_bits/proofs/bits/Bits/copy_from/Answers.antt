use Rattle.std.proofs.Common.{◌∙◌, ap, sym, subst, rules}
use Rattle.kp_bits.specs.Packed.{bits_of, IsPacked}
use Rattle.kp_bits.proofs.Packing.{same_size, same_count}
use Rattle.kp_bits.proofs.bits.Bits.copy_from.Goals as goal

-- both rows have as many words
pub copy_from_slice-requires : goal.copy_from_slice-requires
copy_from_slice-requires c =
    let size = same_size _ _ c.self.inside.words.items c.other.inside.words.items _ _ c.self.view_is c.other.view_is c.requires in
    let count = same_count _ _ _ _ c.self.invariant c.other.invariant size in
    let value = c.deref.ensures.value in
    search (rules, count, value)

pub invariant_of-self : goal.invariant_of-self
invariant_of-self c =
    let size = same_size _ _ c.self.inside.words.items c.other.inside.words.items _ _ c.self.view_is c.other.view_is c.requires in
    subst (λ n. IsPacked n c.copy_from_slice.new.self.items) (sym size)
    (subst (λ ws. IsPacked c.other.inside.count ws) (sym (c.copy_from_slice.ensures.items ∙ c.deref.ensures.value)) c.other.invariant)

pub returns : goal.returns
returns c =
    let size = same_size _ _ c.self.inside.words.items c.other.inside.words.items _ _ c.self.view_is c.other.view_is c.requires in
    ap (bits_of c.self.inside.count) (c.copy_from_slice.ensures.items ∙ c.deref.ensures.value)
    ∙ (ap (λ n. bits_of n c.other.inside.words.items) size ∙ c.other.view_is)
