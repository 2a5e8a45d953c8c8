use Rattle.kp_write.specs.Written.{fact, fact_line}
use Rattle.kp_base.proofs.Places.{next_mapped}
use Rattle.kp_law_texts.proofs.Public.{one_more_put}
use Rattle.kp_write.proofs.Pieces.{line_puts}
use Rattle.kp_write.specs.Named.{fact_name}
use Rattle.kp_write.proofs.putting.put_lines.Goals as goal

pub loop-number-preserved : goal.loop-number-preserved
loop-number-preserved c =
    one_more_put _ _ _ fact_line _ _ _ _ (next_mapped (fact_name c.args.facts.now) c.args.numbers.now c.loop-number.number-index 0 c.loop-number-test.true)
    c.loop-number.invariant
    (line_puts _ _ _ (fact _) c.in_ok-put_fact.ensures c.in_ok-put_byte.ensures)
