use Rattle.kp_clash_exclusive.proofs.Noted.{added_more}
use Rattle.kp_clash_exclusive.proofs.added.atoms_added.Goals as goal

-- the effect's atom is there, and the others are there still
pub loop-effect-preserved : goal.loop-effect-preserved
loop-effect-preserved c = added_more c.loop-effect.words c.note.new.words c.args.effects.now c.loop-effect.effect-index c.effect-item.result c.loop-effect-test.true c.note.ensures.keeps c.effect-item.is c.note.ensures.noted c.loop-effect.invariant
