use Rattle.std.proofs.Common.{◌∙◌}
use Rattle.kp_classic.proofs.Stepping.{outcome_is}
use Rattle.kp_classic.proofs.runs.run_ops.Goals as goal

pub returns : goal.returns
returns c =
    c.then_some.ensures
    ∙ outcome_is c.args.task.now c.requires.fit c.args.ops.now c.in_ok-state.state c.run_on-runs.new.state c.run_on-runs.result c.in_ok-state.ensures
    (rw c.slice.ensures at c.run_on-runs.ensures.runs)
    (rw c.slice.ensures at c.run_on-runs.ensures.end)
