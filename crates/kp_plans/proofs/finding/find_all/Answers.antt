use Rattle.std.proofs.Common.{ℕ, ◌+◌, ap, sym, ◌∙◌}
use Rattle.kp_plans.specs.WordTables.{step_under}
use Rattle.kp_plans.proofs.StepsFound.{first_one}
use Rattle.kp_plans.proofs.finding.find_all.Goals as goal

-- the table has no number for the step
pub returns-in_default : goal.returns-in_default
returns-in_default c =
    first_one (step_under c.args.table.now) c.args.steps.now c.loop-step.step-index c.step-item.result c.loop-step.numbers _ c.loop-step-test.true c.step-item.is c.loop-step.invariant.found c.loop-step.invariant.counted
    (ap (λ (n : ℕ). n + 1) c.len.ensures) (sym c.in_ok-number.ensures ∙ c.in_default.is)
