use Rattle.std.proofs.Common.{arith}
use Rattle.kp_base.proofs.AtomKeys.{got}
use Rattle.kp_primes.specs.Held.{formula}
use Rattle.kp_tags.proofs.Faults.{next_acceptable}
use Rattle.kp_tags.proofs.judging.judge_all.Goals as goal

-- one merge more
pub loop-number-preserved : goal.loop-number-preserved
loop-number-preserved c = next_acceptable (formula c.args.primes.now) c.args.merges.now c.loop-number.number c.index-merges-number.result (got c.args.merges.now c.loop-number.number c.index-merges-number.result (omega arith) c.index-merges-number.is) c.loop-number.invariant c.in_ok-judge.ensures
