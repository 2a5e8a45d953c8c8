use Rattle.std.proofs.Common.{drop}
use Rattle.kp_law_texts.proofs.Public.{LeavesToPut}
use Rattle.kp_plans.specs.Printed.{step_line}
use Rattle.kp_plans.proofs.printing.put_steps.Given as goal

-- with the steps that are left, they are all steps
abbrev pub invariant-loop-step : goal.invariant-loop-step
invariant-loop-step l = LeavesToPut l.fn.out.items l.out.items step_line (drop l.step-index l.steps) l.steps
