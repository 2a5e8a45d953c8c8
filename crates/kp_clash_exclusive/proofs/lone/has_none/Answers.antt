use Rattle.std.proofs.Common.{sym, ◌∙◌, arith}
use Rattle.std.proofs.lemmas.Bool.{false≢true, false_from_ne_true}
use Rattle.kp_clash_exclusive.specs.Paired.{is_pair}
use Rattle.kp_clash_exclusive.proofs.Marked.{width}
use Rattle.kp_clash_exclusive.proofs.lone.has_none.Goals as goal

-- each atom of a pair is in one of the words
pub returns : goal.returns
returns c = λ _ q. false_from_ne_true (is_pair c.args.pairs.now c.args.atom.0 q) (λ pair.
    let below = c.atoms.ensures.below c.args.atom.0 q pair in
    let words = c.words_of-k-end.ensures in
    let row = (width c.atoms.result).0 in
    let seen = c.loop-k-test.false in
    false≢true (sym (c.loop-k.invariant q (omega (arith, below, words, row, seen))) ∙ pair))
