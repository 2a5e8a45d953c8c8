use Rattle.std.proofs.Common.{sym, ◌∙◌, arith}
use Rattle.std.proofs.lemmas.Bool.{false≢true, false_from_ne_true}
use Rattle.kp_clash_exclusive.specs.Paired.{is_pair}
use Rattle.kp_clash_exclusive.specs.Removed.{breaks}
use Rattle.kp_clash_exclusive.proofs.Public.{breaks_broken_pair, row_width}
use Rattle.kp_clash.proofs.broken.next_alone.Goals as goal

pub returns : goal.returns
returns c = λ q le. false_from_ne_true (breaks (is_pair c.args.pairs.now) c.args.action.now c.args.effect.now q) (λ h.
    let pair = (breaks_broken_pair (is_pair c.args.pairs.now) c.args.action.now c.args.effect.now q h) in
    let below = c.atoms.ensures.below c.args.effect.now.result.atom.0 q pair in
    let words = c.words_of-words.ensures in
    let row = (row_width c.atoms.result).0 in
    let seen = c.loop-k-test.false in
    false≢true (sym (c.loop-k.invariant q le (omega (arith, below, seen, words, row))) ∙ h))
