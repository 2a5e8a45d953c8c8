-- Laws of relevance.
use Rattle.std.specs.Prelude.{◌≡◌, ◌↔◌, ℕ, Bool, true, List}
use Rattle.kp_base.specs.declared.lit.Lit.{Lit}
use Rattle.kp_base.specs.declared.ground.Action.{Action}
use Rattle.kp_base.specs.Lit.{negated}
use Rattle.kp_base.specs.declared.ground.Initial.{Initial}
use Rattle.kp_base.specs.Relevance.{IsConditionOf, IsRelevant, IsChained, AreClausesFor}

-- a literal is relevant to another just where a chain leads from the one to the other
abbrev pub RelevanceGoesByChains : Type 0
RelevanceGoesByChains = (acts : List Action) (l m : Lit) → IsRelevant acts l m ↔ IsChained acts l m

-- a relation keeps the four rules of relevance
pub record KeepsTheRules (acts : List Action) (r : Lit → Lit → Bool) : Type 0 where
  pub itself : (l : Lit) → r l l ≡ true
  pub condition : (l m : Lit) → IsConditionOf acts l m → r l m ≡ true
  pub onward : (l m n : Lit) → r l m ≡ true → r m n ≡ true → r l n ≡ true
  pub negation : (l m : Lit) → r l m ≡ true → r (negated l) (negated m) ≡ true

-- relevance is within each relation that keeps them
abbrev pub RelevanceIsLeast : Type 0
RelevanceIsLeast = (acts : List Action) (r : Lit → Lit → Bool) → KeepsTheRules acts r → (l m : Lit) → IsRelevant acts l m → r l m ≡ true

-- a literal has one list of clauses that are relevant to it
abbrev pub AreClausesForOnce : Type 0
AreClausesForOnce = (acts : List Action) (atoms : ℕ) (i : Initial) (target : Lit) (cs ds : List (List Lit)) → AreClausesFor acts atoms i target cs → AreClausesFor acts atoms i target ds → cs ≡ ds
