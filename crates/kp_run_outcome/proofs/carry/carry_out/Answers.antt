use Rattle.std.proofs.Common.{Err, refl, ap}
use Rattle.kp_run_outcome.proofs.Breaking.{put_stopped}
use Rattle.kp_run_outcome.proofs.carry.carry_out.Goals as goal

-- a put stopped
pub returns-in-Err-clause-ends : goal.returns-in-Err-clause-ends
returns-in-Err-clause-ends g c =
    let at = c.in-Err.ensures.stops in
    rw c.stopped-in-Err.ensures (put_stopped c.args.outcome _ _ c.in-Err.stop at.0 (rw c.slice.ensures at at.1) (λ is. at.2 (ap Err is)) (λ is. c.in-Err.ensures.put_faults (λ e. cc (is, e))) c.in-Err.ensures.get_faults refl refl)
