use Rattle.kp_clash.specs.Paired.{is_pair}
use Rattle.kp_run_prepare.proofs.Ended.{clash_ends}
use Rattle.kp_run_prepare.proofs.preparing.judge_clashes.Goals as goal

-- an action clashes
pub returns-clause-ends : goal.returns-clause-ends
returns-clause-ends c l limit is holds =
    clash_ends limit l c.args.ground.now is c.args.primes.now holds c.in-Err.at c.ended_at_clash.result (record { pairs = is_pair c.in_ok-pairs.pairs; exclusive = c.in_ok-pairs.ensures; first = c.in-Err.ensures.first }) c.ended_at_clash.ensures

-- none does
pub returns-in-Ok-clause-free : goal.returns-in-Ok-clause-free
returns-in-Ok-clause-free c = record { pairs = is_pair c.in_ok-pairs.pairs; exclusive = c.in_ok-pairs.ensures; none = c.in-Ok.ensures.none }
