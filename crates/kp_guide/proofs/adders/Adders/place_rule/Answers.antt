use Rattle.std.proofs.Common.{◌≡◌, ◌∙◌, ◌∷◌, [], sym, ap, subst, refl, inl}
use Rattle.std.proofs.lemmas.Option.{same_Some}
use Rattle.kp_base.proofs.AtomKeys.{got}
use Rattle.kp_guide.specs.Placing.{ArePlaces, Grows, HaveAll}
use Rattle.kp_guide.specs.Relaxed.{at}
use Rattle.kp_guide.proofs.Placing.{rule_grows, rule_there}
use Rattle.kp_guide.proofs.adders.Adders.place_rule.Goals as goal

-- the rule is one of them
pub returns-clause-grows : goal.returns-clause-grows
returns-clause-grows c =
    let all = c.args.self.now.rules.items in
    let r = c.index.result.now in
    let old = c.args.facts.now.keys in
    let new = c.places_of.new.facts.keys in
    let there = got all c.args.number r c.requires.number c.index.ensures in
    let adds = c.requires.adds.each c.args.number (inl refl) in
    let fact : r.fact ≡ at old c.args.place = ap (λ q. q.fact) (same_Some r adds.0 (sym there ∙ adds.1)) ∙ adds.2 in
    let places = subst (λ fs. ArePlaces fs old new c.in_ok-needs.needs) c.slice.ensures c.in_ok-needs.ensures in
    subst (Grows all old c.args.rules.now.items new) (sym c.in_ok-push.ensures.items)
    (rule_grows all r c.args.number there c.args.place old new c.in_ok-needs.needs c.args.rules.now.items c.requires.read c.requires.adds.inside fact places)

pub returns-clause-has : goal.returns-clause-has
returns-clause-has c =
    let all = c.args.self.now.rules.items in
    let r = c.index.result.now in
    let old = c.args.facts.now.keys in
    let new = c.places_of.new.facts.keys in
    let there = got all c.args.number r c.requires.number c.index.ensures in
    let adds = c.requires.adds.each c.args.number (inl refl) in
    let fact : r.fact ≡ at old c.args.place = ap (λ q. q.fact) (same_Some r adds.0 (sym there ∙ adds.1)) ∙ adds.2 in
    let places = subst (λ fs. ArePlaces fs old new c.in_ok-needs.needs) c.slice.ensures c.in_ok-needs.ensures in
    subst (λ rules. HaveAll all (c.args.number ∷ []) new rules c.args.place) (sym c.in_ok-push.ensures.items)
    (rule_there all r c.args.number there c.args.place old new c.in_ok-needs.needs c.args.rules.now.items c.requires.read c.requires.adds.inside fact places)
