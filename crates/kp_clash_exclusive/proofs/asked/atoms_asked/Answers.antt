use Rattle.kp_clash_exclusive.proofs.Excluded.{asked_more}
use Rattle.kp_clash_exclusive.proofs.asked.atoms_asked.Goals as goal

-- the literal's atom is there, and the others are there still
pub loop-lit-preserved : goal.loop-lit-preserved
loop-lit-preserved c = asked_more c.loop-lit.words c.note.new.words c.args.lits.now c.loop-lit.lit-index _ c.loop-lit-test.true c.note.ensures.keeps c.note.ensures.noted c.loop-lit.invariant
