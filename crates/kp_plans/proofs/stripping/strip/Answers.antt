use Rattle.std.proofs.Common.{refl, subst, List}
use Rattle.kp_plans.specs.declared.step.PlanStep.{PlanStep}
use Rattle.kp_plans.specs.Stripping.{IsFirstUnstripped}
use Rattle.kp_plans.proofs.Strips.{one_more, first_one}
use Rattle.kp_plans.proofs.stripping.strip.Goals as goal

-- the step is no operator's, and those before it are
pub returns-then-not-branch : goal.returns-then-not-branch
returns-then-not-branch c =
    let first : IsFirstUnstripped c.slice-step-items.result.now c.step-item.result = first_one _ _ _ _ c.loop-step-test.true c.step-item.is c.loop-step.invariant (rw c.if-not-branch.true at c.in_ok-strip_step.ensures) in
    (c.step-item.result, (subst (λ (steps : List PlanStep). IsFirstUnstripped steps c.step-item.result) c.slice-step-items.ensures first, refl))

pub loop-step-preserved : goal.loop-step-preserved
loop-step-preserved c = one_more _ _ _ _ _ c.loop-step-test.true c.step-item.is c.loop-step.invariant (rw c.if-not-branch.false at c.in_ok-strip_step.ensures)
