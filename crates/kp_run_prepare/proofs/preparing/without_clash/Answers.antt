use Rattle.std.proofs.Common.{refl}
use Rattle.kp_run_prepare.proofs.Ended.{free_goes_on}
use Rattle.kp_run_prepare.proofs.preparing.without_clash.Goals as goal

-- an action clashes
pub returns-in-Err : goal.returns-in-Err
returns-in-Err c l limit is holds = c.in-Err.ensures.ends l limit is holds

-- none does
pub returns-in-Ok : goal.returns-in-Ok
returns-in-Ok c l limit is holds = free_goes_on limit l c.args.ground is c.args.primes holds _ refl refl c.in-Ok.ensures.free
