use Rattle.std.proofs.Common.{◌≡◌, ◌≤◌, ◌+◌, ◌*◌, ◌/◌, ◌∙◌, length, get_or, ap, sym, subst, arith}
use Rattle.std.proofs.lemmas.Grind.{get_or_default_zero}
use Rattle.kp_bits.specs.Ranks.{trues_before}
use Rattle.kp_bits.proofs.Ranks.{rank_is, trues_fit}
use Rattle.kp_bits.proofs.ranked.Ranked.rank.Goals as goal

-- what is set before the word, and the word's first bits
pub overflow_add-result : goal.overflow_add-result
overflow_add-result c =
    let row = c.self.inside.bits in
    let view = c.self.view_is in
    let in_range = subst (λ xs. c.args.i ≤ length xs) (sym view) c.requires in
    let enough = c.self.invariant.enough in
    let few = c.self.invariant.few in
    let at = c.index.ensures ∙ (get_or_default_zero c.self.inside.before.items (c.args.i / 64) c.index.result.now (omega arith) ∙ c.self.invariant.each (c.args.i / 64) (omega arith)) in
    let word = rank_is row c.args.i c.word.result c.word.ensures in
    let fit = trues_fit row c.args.i in
    let ones = c.ones_below.ensures in
    omega (arith, at, word, fit, ones, few)

pub returns : goal.returns
returns c =
    let row = c.self.inside.bits in
    let view = c.self.view_is in
    let in_range = subst (λ xs. c.args.i ≤ length xs) (sym view) c.requires in
    let enough = c.self.invariant.enough in
    let at = c.index.ensures ∙ (get_or_default_zero c.self.inside.before.items (c.args.i / 64) c.index.result.now (omega arith) ∙ c.self.invariant.each (c.args.i / 64) (omega arith)) in
    let word = rank_is row c.args.i c.word.result c.word.ensures in
    let ones = c.ones_below.ensures in
    let same = ap (λ xs. trues_before xs c.args.i) view in
    omega (arith, at, word, ones, same)
