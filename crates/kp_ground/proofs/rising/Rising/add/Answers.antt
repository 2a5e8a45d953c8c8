use Rattle.std.proofs.Common.{◌≡◌, if◌then◌else◌, List, ◌∷◌, [], ◌++◌, sym, ap, subst, ◌∙◌, nat_eq}
use Rattle.std.specs.declared.cmp.Ordering.TheVariants.{Equal, Greater}
use Rattle.indexmap.specs.IndexMap.{get}
use Rattle.kp_base.specs.declared.ground.Effect.{Effect}
use Rattle.kp_base.specs.Lit.{code_of}
use Rattle.kp_ground.specs.Ascents.{IsRising, beside_last}
use Rattle.kp_ground.proofs.Ascents.{new_above, there_level, more_above}
use Rattle.kp_ground.proofs.rising.Rising.add.Goals as goal

-- the effect is above the last of its result
pub invariant_of-self-in-Greater : goal.invariant_of-self-in-Greater
invariant_of-self-in-Greater c =
    let es = c.self.inside.effects.items in
    let e = c.args.effect in
    let above : beside_last (get nat_eq c.self.inside.last (code_of e.result)) es e ≡ Greater = ap (λ (ds : List Effect). beside_last (get nat_eq c.self.inside.last (code_of e.result)) ds e) (sym c.deref.ensures.value) ∙ (sym c.beside_last.ensures ∙ c.in-Greater.is) in
    subst (IsRising (get nat_eq c.push.new.last)) (sym c.in_ok-push-in-Greater.ensures.effects)
    (more_above (get nat_eq c.self.inside.last) es c.self.invariant e (get nat_eq c.push.new.last) above c.in_ok-push-in-Greater.ensures.last)

-- it is level with it, so it is there
pub returns-in-Equal-clause-ok : goal.returns-in-Equal-clause-ok
returns-in-Equal-clause-ok c =
    let es = c.self.inside.effects.items in
    let e = c.args.effect in
    let level : beside_last (get nat_eq c.self.inside.last (code_of e.result)) es e ≡ Equal = ap (λ (ds : List Effect). beside_last (get nat_eq c.self.inside.last (code_of e.result)) ds e) (sym c.deref.ensures.value) ∙ (sym c.beside_last.ensures ∙ c.in-Equal.is) in
    let there = there_level (get nat_eq c.self.inside.last) es c.self.invariant e level in
    rw (← c.self.view_is) (sym (ap (λ t. if t then es else es ++ e ∷ []) there))

-- it is above, so it is new
pub returns-in_ok-push-in-Greater-clause-ok : goal.returns-in_ok-push-in-Greater-clause-ok
returns-in_ok-push-in-Greater-clause-ok c =
    let es = c.self.inside.effects.items in
    let e = c.args.effect in
    let above : beside_last (get nat_eq c.self.inside.last (code_of e.result)) es e ≡ Greater = ap (λ (ds : List Effect). beside_last (get nat_eq c.self.inside.last (code_of e.result)) ds e) (sym c.deref.ensures.value) ∙ (sym c.beside_last.ensures ∙ c.in-Greater.is) in
    let new = new_above (get nat_eq c.self.inside.last) es c.self.invariant e above in
    rw (← c.self.view_is) (c.in_ok-push-in-Greater.ensures.effects ∙ sym (ap (λ t. if t then es else es ++ e ∷ []) new))
