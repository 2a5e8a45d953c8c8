-- Relevance goes by chains.
use Rattle.std.proofs.Common.{◌≡◌, ◌||◌, Bool, true, List, ap₂, ◌∙◌, subst, inl, inr}
use Rattle.std.proofs.lemmas.Bool.{and_parts, and_from, or_cases, or_left, or_right}
use Rattle.std.specs.List.{list_any}
use Rattle.kp_base.specs.declared.lit.Lit.{Lit}
use Rattle.kp_base.specs.declared.ground.Effect.{Effect}
use Rattle.kp_base.specs.declared.ground.Action.{Action}
use Rattle.kp_base.specs.Lists.{Member}
use Rattle.kp_base.specs.Lit.{negated, same_lit, has}
use Rattle.kp_base.proofs.Lists.{any_weaker, any_member, any_from}
use Rattle.kp_base.proofs.Lits.{same_lit-true, same_lit-refl, negated-negated, member-has, has-member}
use Rattle.kp_base.specs.Relevance.{IsConditionOf, IsRelevant, leads, joins, IsChained}

-- an effect joins two literals
abbrev pub joins_by : Lit → Lit → Effect → Bool
joins_by l m e = leads l m e || leads (negated l) (negated m) e

-- ---- joins

pub condition_leads : (e : Effect) (l : Lit) → Member e.cond l → leads l e.result e ≡ true
condition_leads e l m = and_from (same_lit e.result e.result) (has e.cond l) (same_lit-refl e.result) (has-member e.cond l m)

condition_joins : (acts : List Action) (l m : Lit) → IsConditionOf acts l m → joins acts l m ≡ true
condition_joins acts l m c =
    any_from (λ a. list_any (joins_by l m) a.effects) acts c.action c.action_in
    (any_from (joins_by l m) c.action.effects c.effect c.effect_in
    (or_left (leads l m c.effect) (leads (negated l) (negated m) c.effect)
    (subst (λ (x : Lit). leads l x c.effect ≡ true) c.result (condition_leads c.effect l c.condition))))

-- an effect that leads from a literal to another has the one in its condition
condition_of : (acts : List Action) (a : Action) (e : Effect) (l m : Lit) → Member acts a → Member a.effects e → leads l m e ≡ true → IsConditionOf acts l m
condition_of acts a e l m in_acts in_effects h =
    let parts = and_parts (same_lit e.result m) (has e.cond l) h in
    record { action = a; effect = e; action_in = in_acts; effect_in = in_effects; condition = member-has e.cond l parts.1; result = same_lit-true e.result m parts.0 }

pub joins_relevant : (acts : List Action) (l m : Lit) → joins acts l m ≡ true → IsRelevant acts l m
joins_relevant acts l m h =
    let a = any_member (λ a. list_any (joins_by l m) a.effects) acts h in
    let e = any_member (joins_by l m) a.0.effects a.2 in
    elim (or_cases (leads l m e.0) (leads (negated l) (negated m) e.0) e.2) [
      | inl q ↦ IsRelevant.condition l m (condition_of acts a.0 e.0 l m a.1 e.1 q)
      | inr q ↦
          subst (λ (x : Lit). IsRelevant acts x m) (negated-negated l)
          (subst (λ (x : Lit). IsRelevant acts (negated (negated l)) x) (negated-negated m)
          (IsRelevant.negation (negated l) (negated m) (IsRelevant.condition (negated l) (negated m) (condition_of acts a.0 e.0 (negated l) (negated m) a.1 e.1 q))))
    ]

joins_negated : (acts : List Action) (l m : Lit) → joins acts l m ≡ true → joins acts (negated l) (negated m) ≡ true
joins_negated acts l m =
    any_weaker (λ a. list_any (joins_by l m) a.effects) (λ a. list_any (joins_by (negated l) (negated m)) a.effects) acts
    (λ a _. any_weaker (joins_by l m) (joins_by (negated l) (negated m)) a.effects (λ e _. turn e))
  where
    back : (e : Effect) → leads (negated (negated l)) (negated (negated m)) e ≡ leads l m e
    back e = ap₂ (λ (x y : Lit). leads x y e) (negated-negated l) (negated-negated m)

    turn : (e : Effect) → joins_by l m e ≡ true → joins_by (negated l) (negated m) e ≡ true
    turn e h = elim (or_cases (leads l m e) (leads (negated l) (negated m) e) h) [
      | inl q ↦ or_right (leads (negated l) (negated m) e) (leads (negated (negated l)) (negated (negated m)) e) (back e ∙ q)
      | inr q ↦ or_left (leads (negated l) (negated m) e) (leads (negated (negated l)) (negated (negated m)) e) q
    ]

-- ---- chains

chain_onward : (acts : List Action) (l m n : Lit) → IsChained acts l m → IsChained acts m n → IsChained acts l n
chain_onward acts _ _ n (IsChained.alone l) r = r
chain_onward acts _ _ n (IsChained.joined l k m j q) r = IsChained.joined l k n j (chain_onward acts k m n q r)

chain_negated : (acts : List Action) (l m : Lit) → IsChained acts l m → IsChained acts (negated l) (negated m)
chain_negated acts _ _ (IsChained.alone l) = IsChained.alone (negated l)
chain_negated acts _ _ (IsChained.joined l k m j q) = IsChained.joined (negated l) (negated k) (negated m) (joins_negated acts l k j) (chain_negated acts k m q)

pub to_chain : (acts : List Action) (l m : Lit) → IsRelevant acts l m → IsChained acts l m
to_chain acts _ _ (IsRelevant.itself l) = IsChained.alone l
to_chain acts _ _ (IsRelevant.condition l m c) = IsChained.joined l m m (condition_joins acts l m c) (IsChained.alone m)
to_chain acts _ _ (IsRelevant.onward l m n p q) = chain_onward acts l m n (to_chain acts l m p) (to_chain acts m n q)
to_chain acts _ _ (IsRelevant.negation l m p) = chain_negated acts l m (to_chain acts l m p)

pub from_chain : (acts : List Action) (l m : Lit) → IsChained acts l m → IsRelevant acts l m
from_chain acts _ _ (IsChained.alone l) = IsRelevant.itself l
from_chain acts _ _ (IsChained.joined l k m j q) = IsRelevant.onward l k m (joins_relevant acts l k j) (from_chain acts k m q)
