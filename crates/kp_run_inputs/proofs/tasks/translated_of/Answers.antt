use Rattle.std.proofs.Common.{subst}
use Rattle.kp_law_ktask.specs.Task.{task_of}
use Rattle.kp_ktask.specs.Translated.{FitsLimits, StopsTask}
use Rattle.kp_run_inputs.specs.Tabled.{ground_in}
use Rattle.kp_run_inputs.proofs.Going.{task_stops}
use Rattle.kp_run_inputs.proofs.tasks.translated_of.Goals as goal

-- the task is within the limits
pub invariant_of-result : goal.invariant_of-result
invariant_of-result c =
    let t = c.args.tabled in
    record {
      is_task = c.in-Ok.ensures.1;
      fits = subst (λ m. FitsLimits (task_of (ground_in t) t.table) m) c.usual.ensures c.in-Ok.ensures.0;
    }

-- the task is larger than a limit allows
pub returns-in-Err : goal.returns-in-Err
returns-in-Err c =
    let t = c.args.tabled in
    task_stops (ground_in t) t.table c.in-Err.stop c.ended_by.result (subst (λ m. StopsTask (task_of (ground_in t) t.table) m c.in-Err.stop) c.usual.ensures c.in-Err.ensures) c.ended_by.ensures
