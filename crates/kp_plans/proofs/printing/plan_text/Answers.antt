use Rattle.std.proofs.Common.{◌≡◌, rules, sym, subst, List, ℕ}
use Rattle.kp_plans.specs.Printed.{plan_text, IsTextOf}
use Rattle.kp_plans.proofs.Lines.{printed_plans_read}
use Rattle.kp_plans.proofs.printing.plan_text.Goals as goal

-- the text is what is printed, and that reads so
pub returns-clause-reads : goal.returns-clause-reads
returns-clause-reads c =
    let is : c.from_vec.result ≡ plan_text c.args.steps.now = search rules in
    λ h. subst (λ (text : List ℕ). IsTextOf text c.args.steps.now) (sym is) (printed_plans_read c.args.steps.now h)
