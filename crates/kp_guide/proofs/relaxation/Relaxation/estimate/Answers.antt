use Rattle.std.proofs.Common.{◌≡◌, ◌≤◌, ◌<◌, ◌∙◌, ap, sym, subst, length, Some}
use Rattle.kp_guide.specs.Added.{IsLeast}
use Rattle.kp_guide.specs.Relaxed.{held}
use Rattle.kp_guide.specs.CostTables.{total}
use Rattle.kp_guide.proofs.Estimates.{told_some, told_none}
use Rattle.kp_guide.proofs.relaxation.Relaxation.estimate.Goals as goal

pub returns-then-cost-le-CAP : goal.returns-then-cost-le-CAP
returns-then-cost-le-CAP c =
    let self = c.args.self.now in
    let rules = self.index.rules.items in
    let s = held self c.args.state.now in
    let n = length self.facts.keys in
    let costs = c.in_ok-costs.costs.items in
    let cost_is : c.cost_of-cost.result ≡ total costs self.goal = c.cost_of-cost.ensures ∙ (ap (λ cs. total cs c.slice.result.now) c.deref.ensures.value ∙ ap (total costs) c.slice.ensures) in
    subst (λ h. IsLeast rules s self.goal (Some h)) (sym cost_is)
    (told_some rules s n costs c.in_ok-costs.ensures self.goal self.inside (subst (λ h. h ≤ 1000000000) cost_is c.if-cost-le-CAP.true))

pub returns : goal.returns
returns c =
    let self = c.args.self.now in
    let rules = self.index.rules.items in
    let s = held self c.args.state.now in
    let n = length self.facts.keys in
    let costs = c.in_ok-costs.costs.items in
    let cost_is : c.cost_of-cost.result ≡ total costs self.goal = c.cost_of-cost.ensures ∙ (ap (λ cs. total cs c.slice.result.now) c.deref.ensures.value ∙ ap (total costs) c.slice.ensures) in
    told_none rules s n costs c.in_ok-costs.ensures self.goal (subst (λ h. 1000000000 < h) cost_is c.if-cost-le-CAP.false)
