use Rattle.std.proofs.Common.{◌+◌, arith}
use Rattle.kp_primes.specs.Included.{RefusesPrefix}
use Rattle.kp_primes.proofs.Counting.{counted_more, passed_at}
use Rattle.kp_primes.proofs.build.include_all.Goals as goal

-- the limit is passed at this clause
pub returns-in-Over-clause-stopped : goal.returns-in-Over-clause-stopped
returns-in-Over-clause-stopped c =
    rw c.loop-c.invariant.number
    (RefusesPrefix.passed_at (c.loop-c.c-index + 1)
    (passed_at c.args.clauses.now c.loop-c.store c.args.limit c.loop-c.c-index c.c-item.result (omega arith) c.c-item.is c.in_ok-entry.ensures.ascending c.loop-c.invariant.counted (rw c.in-Over.is at c.in_ok-entry.ensures.entry)))

pub loop-c-preserved : goal.loop-c-preserved
loop-c-preserved c =
    let in' = rw c.in-In.is at c.in_ok-entry.ensures.entry in
    record {
      held = c.in_ok-entry.ensures.held;
      number = omega arith;
      counted =
          rw in'.0
          (counted_more c.args.clauses.now c.loop-c.store c.args.limit c.loop-c.c-index c.c-item.result (omega arith) c.c-item.is c.in_ok-entry.ensures.ascending c.loop-c.invariant.counted (rw in'.0 at in'.1));
    }
