use Rattle.std.proofs.Common.{arith}
use Rattle.kp_clash_exclusive.proofs.Spans.{between_more, get_below}
use Rattle.kp_clash_exclusive.proofs.between.spans_of.Goals as goal

pub loop-place-preserved : goal.loop-place-preserved
loop-place-preserved c = between_more c.loop-place.firsts c.note.new.firsts c.loop-place.ends c.note.new.ends c.args.effects.now c.loop-place.place c.index-effects-place.result c.index-effects-place.is c.note.ensures.falls c.note.ensures.rises c.loop-place.invariant c.note.ensures.here

pub returns : goal.returns
returns c = λ i d at. c.loop-place.invariant i d (let below = get_below c.args.effects.now i d at in let end = c.loop-place-test.false in omega (arith, below, end)) at
