use Rattle.std.proofs.Common.{subst}
use Rattle.kp_law_ktask.specs.Task.{task_of}
use Rattle.kp_ktask.specs.Translated.{FitsLimits, StopsTask}
use Rattle.kp_run_inputs.specs.Tabled.{ground_in}
use Rattle.kp_run_inputs.proofs.Going.{task_stops}
use Rattle.kp_run_inputs.proofs.tasks.written_of.Goals as goal

-- the task is within the limits
pub returns-in-Ok : goal.returns-in-Ok
returns-in-Ok c = let t = c.args.tabled.now in (subst (λ m. FitsLimits (task_of (ground_in t) t.table) m) c.usual.ensures c.in-Ok.ensures.0, c.in-Ok.ensures.1)

-- it is larger than one allows
pub returns-in-Err : goal.returns-in-Err
returns-in-Err c =
    let t = c.args.tabled.now in
    task_stops (ground_in t) t.table c.in-Err.stop c.ended_by.result (subst (λ m. StopsTask (task_of (ground_in t) t.table) m c.in-Err.stop) c.usual.ensures c.in-Err.ensures) c.ended_by.ensures
