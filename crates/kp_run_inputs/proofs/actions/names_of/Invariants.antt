use Rattle.std.proofs.Common.{◌≡◌}
use Rattle.kp_plans.specs.PlanFiles.{step_names}
use Rattle.kp_run_inputs.proofs.actions.names_of.Given as goal

-- the names of the steps so far
abbrev pub invariant-loop-step : goal.invariant-loop-step
invariant-loop-step l = l.names ≡ step_names l.yielded
