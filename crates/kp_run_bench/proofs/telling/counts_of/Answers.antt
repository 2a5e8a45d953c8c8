use Rattle.std.proofs.Common.{subst}
use Rattle.kp_law_ktask.specs.Task.{task_of}
use Rattle.kp_ktask.specs.Translated.{RefusesTask, StopsTask}
use Rattle.kp_run_prepare.specs.Prepared.{usual}
use Rattle.kp_ktask.proofs.Public.{task_refused_or_within}
use Rattle.kp_run_inputs.specs.Tabled.{ground_in}
use Rattle.kp_run_bench.proofs.telling.counts_of.Goals as goal

-- a task within the limits isn't refused
pub unreachable-requires : goal.unreachable-requires
unreachable-requires c =
    let x = c.args.translated.now in
    let task = task_of (ground_in x.tabled) x.tabled.table in
    let stops = subst (λ s. StopsTask task c.usual.result s) c.in-Err-Refused.field-0-is c.in-Err-Refused.ensures in
    task_refused_or_within task usual c.in-Err-Refused.field-0-0 (subst (λ m. RefusesTask task m c.in-Err-Refused.field-0-0) c.usual.ensures stops) x.fits
