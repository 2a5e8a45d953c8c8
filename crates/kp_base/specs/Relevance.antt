-- Which literals are relevant to which, and which clauses to a literal. (Palacios and Geffner, JAIR 35, 2009.)
use Rattle.std.specs.Prelude.{◌≡◌, ◌↔◌, ◌<◌, ◌&&◌, ◌||◌, ℕ, Bool, true, List, [], ◌∷◌, length}
use Rattle.std.specs.List.{list_any}
use Rattle.std.specs.List.Sorted.{IsSorted}
use Rattle.kp_base.specs.declared.lit.Lit.{Lit}
use Rattle.kp_base.specs.declared.ground.Effect.{Effect}
use Rattle.kp_base.specs.declared.ground.Action.{Action}
use Rattle.kp_base.specs.declared.ground.Initial.{Initial}
use Rattle.kp_base.specs.Lists.{Member}
use Rattle.kp_base.specs.Lit.{positive, negative, negated, same_lit, has}
use Rattle.kp_base.specs.LitSet.{lits_cmp}
use Rattle.kp_base.specs.Entailed.{HasOneValue}
use Rattle.kp_base.specs.Implicates.{IsPrime, IsOnce}

-- ---- literals

-- some effect of an action has the first literal in its condition, and the second as its result
pub record IsConditionOf (acts : List Action) (l m : Lit) : Type 0 where
  pub action : Action
  pub effect : Effect
  pub action_in : Member acts action
  pub effect_in : Member action.effects effect
  pub condition : Member effect.cond l
  pub result : effect.result ≡ m

-- the first literal is relevant to the second: the least relation with these four rules
pub data IsRelevant (acts : List Action) : Lit → Lit → Type 0 where
  itself : (l : Lit) → IsRelevant acts l l
  condition : (l m : Lit) → IsConditionOf acts l m → IsRelevant acts l m
  onward : (l m n : Lit) → IsRelevant acts l m → IsRelevant acts m n → IsRelevant acts l n
  negation : (l m : Lit) → IsRelevant acts l m → IsRelevant acts (negated l) (negated m)

-- ---- by chains

-- an effect has the first literal in its condition and the second as its result
abbrev pub leads : Lit → Lit → Effect → Bool
leads l m e = same_lit e.result m && has e.cond l

-- an effect of an action leads from the one to the other, or from the negation of the one to that of the other
abbrev pub joins : List Action → Lit → Lit → Bool
joins acts l m = list_any (λ a. list_any (λ e. leads l m e || leads (negated l) (negated m) e) a.effects) acts

-- literals from the first to the last, each joined to the next
pub data IsChained (acts : List Action) : Lit → Lit → Type 0 where
  alone : (l : Lit) → IsChained acts l l
  joined : (l m n : Lit) → joins acts l m ≡ true → IsChained acts m n → IsChained acts l n

-- ---- clauses

-- an atom or its negation
abbrev pub either_value : ℕ → List Lit
either_value p = positive p ∷ negative p ∷ []

-- a prime implicate of more than one literal; or that an atom or its negation is true, where initial states differ in it
pub data IsCandidate (atoms : ℕ) (i : Initial) : List Lit → Type 0 where
  implicate : (c : List Lit) → IsPrime i c → 1 < length c → IsCandidate atoms i c
  unsettled : (p : ℕ) → p < atoms → (HasOneValue i p → ⊥) → IsCandidate atoms i (either_value p)

-- each literal of the clause is relevant to the target
abbrev pub AreRelevant : List Action → Lit → List Lit → Type 0
AreRelevant acts target c = (l : Lit) → Member c l → IsRelevant acts l target

-- a candidate clause that is relevant to the target
pub record IsClauseFor (acts : List Action) (atoms : ℕ) (i : Initial) (target : Lit) (c : List Lit) : Type 0 where
  pub candidate : IsCandidate atoms i c
  pub relevant : AreRelevant acts target c

-- just these clauses, each once, in order
pub record AreClausesFor (acts : List Action) (atoms : ℕ) (i : Initial) (target : Lit) (cs : List (List Lit)) : Type 0 where
  pub exact : (c : List Lit) → Member cs c ↔ IsClauseFor acts atoms i target c
  pub once : IsOnce cs
  pub in_order : IsSorted lits_cmp cs
