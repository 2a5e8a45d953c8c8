use Rattle.std.proofs.Common.{refl}
use Rattle.kp_primes.proofs.Growing.{walk_has, walk_next, walk_over}
use Rattle.kp_primes.proofs.include.walk.Goals as goal

pub step-requires-clause-there : goal.step-requires-clause-there
step-requires-clause-there c = walk_has c.args.primes.now c.args.lits.now c.loop-l.l-index _ c.loop-l.news _ c.loop-l-test.true c.loop-l.invariant

-- there are too many already
pub returns-in-Over : goal.returns-in-Over
returns-in-Over c = walk_over _ _ _ _ c.args.limit (walk_next c.args.primes.now c.args.lits.now c.loop-l.l-index _ c.loop-l.news _ _ c.loop-l-test.true refl c.loop-l.invariant) (rw c.in-Over.is at c.in_ok-step.ensures)

pub returns-in-Over-counted : goal.returns-in-Over-counted
returns-in-Over-counted c = walk_over _ _ _ _ c.args.limit (walk_next c.args.primes.now c.args.lits.now c.loop-l.l-index _ c.loop-l.news _ _ c.loop-l-test.true (rw c.in_default.is at c.in_ok-step.ensures) c.loop-l.invariant) c.in-Over-counted.ensures

pub loop-l-preserved : goal.loop-l-preserved
loop-l-preserved c = walk_next c.args.primes.now c.args.lits.now c.loop-l.l-index _ c.loop-l.news _ _ c.loop-l-test.true (rw c.in_default.is at c.in_ok-step.ensures) c.loop-l.invariant
