use Rattle.std.proofs.Common.{arith}
use Rattle.kp_cover.proofs.Deciding.{leaves_next}
use Rattle.kp_cover.proofs.covering.uncovered.Goals as goal

pub loop-target-preserved : goal.loop-target-preserved
loop-target-preserved c = leaves_next c.args.relevance.now c.args.primes.now c.args.table.now c.args.targets.now c.loop-target.left c.add_uncovered.new.left c.loop-target.target-index _ c.requires.ascending (omega (arith, c.loop-target-test.true)) c.in_ok-add_uncovered.ensures c.loop-target.invariant
