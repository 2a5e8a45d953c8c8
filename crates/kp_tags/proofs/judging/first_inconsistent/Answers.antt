use Rattle.std.proofs.Common.{refl, arith}
use Rattle.kp_base.proofs.AtomKeys.{got}
use Rattle.kp_primes.specs.Held.{formula}
use Rattle.kp_tags.proofs.Faults.{next_consistent}
use Rattle.kp_tags.proofs.judging.first_inconsistent.Goals as goal

-- one tag more
pub loop-place-preserved : goal.loop-place-preserved
loop-place-preserved c = next_consistent (formula c.args.primes.now) c.args.tags.now c.loop-place.place c.index-tags-place.result (got c.args.tags.now c.loop-place.place c.index-tags-place.result (omega arith) c.index-tags-place.is) c.loop-place.invariant (c.if-not-consistent.ensures.0 refl)
