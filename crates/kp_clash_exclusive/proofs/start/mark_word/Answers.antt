use Rattle.std.proofs.Common.{◌+◌, ◌*◌, ap, ◌∙◌}
use Rattle.std.specs.Int.{bit_at}
use Rattle.kp_clash_exclusive.specs.Starting.{between}
use Rattle.kp_clash_exclusive.proofs.Small.{ones}
use Rattle.kp_clash_exclusive.proofs.Starting.{marked_alike}
use Rattle.kp_clash_exclusive.proofs.Filling.{between_less, between_more, word_full}
use Rattle.kp_clash_exclusive.proofs.start.mark_word.Goals as goal

pub returns-then-word : goal.returns-then-word
returns-then-word c =
    let n = c.args.atoms in
    let p = c.args.p in
    let from = c.args.k * 64 in
    let to = c.end_of.result in
    let all = c.end_of.ensures.all in
    marked_alike n (between p from to) (between p from (from + 64)) c.args.table.now c.mark_between.new.table
    (λ r s h. between_less p from to (from + 64) r s c.end_of.ensures.at_most h)
    (λ r s _ h y x. between_more p from to (from + 64) r s (all r x) (all s y) h)
    c.mark_between.ensures

-- all of them are marked
pub returns-else-word : goal.returns-else-word
returns-else-word c =
    let words = c.words_of.ensures in
    word_full c.args.atoms c.args.table.now c.args.p c.args.k c.requires.square c.requires.below c.requires.word (λ j l.
    let read = rw words at (c.word.ensures j l) in
    read.0 (ap (λ w. bit_at w j) c.if-word.false ∙ ones j l))
