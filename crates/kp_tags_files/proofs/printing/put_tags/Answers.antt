use Rattle.kp_law_texts.specs.Pieces.{spaced}
use Rattle.kp_base.proofs.Places.{next_mapped}
use Rattle.kp_law_texts.proofs.Public.{one_more_put}
use Rattle.kp_tags_files.specs.Printed.{tag_put, tag_of}
use Rattle.kp_tags_files.proofs.Spaced.{spaced_puts}
use Rattle.kp_tags_files.proofs.printing.put_tags.Goals as goal

pub loop-number-preserved : goal.loop-number-preserved
loop-number-preserved c =
    one_more_put _ _ _ (spaced (tag_put c.args.atoms.now)) _ _ _ _ (next_mapped (tag_of c.args.rows.now) c.args.numbers.now c.loop-number.number-index 0 c.loop-number-test.true)
    c.loop-number.invariant
    (spaced_puts _ _ _ _ c.in_ok-put.ensures c.in_ok-put_numbered.ensures)
