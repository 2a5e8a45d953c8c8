use Rattle.std.proofs.Common.{◌≡◌, Some, take}
use Rattle.kp_names_semantics.specs.Strip.{strip}
use Rattle.kp_plans.specs.PlanFiles.{step_names}
use Rattle.kp_plans.proofs.stripping.strip.Given as goal

-- the actions of the steps so far
abbrev pub invariant-loop-step : goal.invariant-loop-step
invariant-loop-step l = strip (step_names (take l.step-index l.step-items)) ≡ Some l.actions
