-- The operators do what the tagged machine does.
use Rattle.std.proofs.Common.{◌≡◌, Bool, true, false, not, ◌&&◌, ◌||◌, List, [], ◌∷◌, refl, ap}
use Rattle.std.specs.List.{list_any}
use Rattle.kp_base.specs.declared.lit.Lit.{Lit}
use Rattle.kp_base.specs.declared.ground.Effect.{Effect}
use Rattle.kp_base.specs.Lit.{negated, same_lit}
use Rattle.kp_base.specs.Steps.{Valuation, fires}
use Rattle.kp_base.specs.Machine.{persists}
use Rattle.kp_base.proofs.Lists.{all-not}
use Rattle.kp_base.proofs.Lits.{same_lit-negated}
use Rattle.kp_law_tagged_machine.specs.Laws.{is_cancelled, OperatorsAreExact}

persists_uncancelled : (es : List Effect) (k : Valuation) (l : Lit) → not (is_cancelled es k l) ≡ persists es k l
persists_uncancelled [] k l = refl
persists_uncancelled (e ∷ es) k l =
    rw (same_lit-negated e.result l, all-not (λ c. k (negated c)) (λ c. not (k (negated c))) e.cond (λ c. refl), ← persists_uncancelled es k l)
    (laws (same_lit e.result (negated l)) (list_any (λ c. k (negated c)) e.cond) (is_cancelled es k l))
  where
    laws : (a b c : Bool) → not ((a && not b) || c) ≡ ((not a || b) && not c)
    laws true true c = refl
    laws true false c = refl
    laws false b c = refl

pub operators_are_exact : OperatorsAreExact
operators_are_exact a k l = ap (λ t. fires a.effects k l || (k l && t)) (persists_uncancelled a.effects k l)
