use Rattle.std.proofs.Common.{arith}
use Rattle.kp_clash_exclusive.proofs.Marked.{width}
use Rattle.kp_clash_exclusive.proofs.added.meets.Goals as goal

-- each atom of a pair is in one of the words
pub returns : goal.returns
returns c = λ _ q pair.
    let below = c.atoms.ensures.below c.args.atom.0 q pair in
    let few = c.atoms.ensures.few in
    let words = c.words_of-k-end.ensures in
    let row = (width c.atoms.result).0 in
    let seen = c.loop-k-test.false in
    (omega (arith, below, few), c.loop-k.invariant q (omega (arith, below, words, row, seen)) pair)
