use Rattle.std.proofs.Common.{refl}
use Rattle.kp_clauses.proofs.Sieving.{mark_more}
use Rattle.kp_clauses.proofs.mark.mark.Goals as goal

-- one literal more
pub loop-l-preserved : goal.loop-l-preserved
loop-l-preserved c = mark_more c.slice-lits.result.now c.loop-l.l-index _ c.loop-l.word c.marked-word.result _ c.loop-l-test.true refl c.marked-word.ensures.set c.marked-word.ensures.others c.loop-l.invariant
