use Rattle.std.proofs.Common.{◌≡◌, ◌∙◌, ap, sym, subst, length, map, true}
use Rattle.std.specs.Vec.{with_items}
use Rattle.std.proofs.lemmas.List.{with_items_is}
use Rattle.kp_classic.specs.States.{has}
use Rattle.kp_guide.specs.Relaxed.{held}
use Rattle.kp_guide.specs.CostTables.{AreSettled, Lowers, are_costs, first_cost}
use Rattle.kp_guide.proofs.Estimates.{first_costs, settles_placed}
use Rattle.kp_guide.proofs.relaxation.Relaxation.costs.Goals as goal

pub settle-requires-clause-costs : goal.settle-requires-clause-costs
settle-requires-clause-costs c =
    let s = has c.args.state.now.hold in
    subst (λ xs. are_costs xs ≡ true) (sym (c.as_mut_slice.ensures.value ∙ c.in_ok-costs.ensures)) (first_costs s c.as_slice.result.now)

pub returns : goal.returns
returns c =
    let self = c.args.self.now in
    let new = c.settle.new.costs in
    let rules = self.index.rules.items in
    let s = has c.args.state.now.hold in
    let facts = self.facts.keys in
    let l = c.in_ok-settle.ensures.lowers in
    let first : c.as_mut_slice.result.now ≡ map (first_cost s) facts = c.as_mut_slice.ensures.value ∙ (c.in_ok-costs.ensures ∙ ap (map (first_cost s)) c.as_slice.ensures.keys) in
    let written : (with_items c.in_ok-costs.costs new).items ≡ new = with_items_is c.in_ok-costs.costs new (l.len ∙ c.as_mut_slice.ensures.len) in
    subst (AreSettled rules (held self c.args.state.now) (length facts)) (sym written) (settles_placed rules s facts new (subst (λ old. Lowers rules old new) first l) c.in_ok-settle.ensures.closed)
