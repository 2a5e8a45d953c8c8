-- What is proved of the facts of a task: the list has just those that matter, and what bears on one of them is one.
use Rattle.std.specs.Prelude.{◌≡◌, ◌↔◌, ◌<◌, ℕ, true, List, Some, length, slice_get}
use Rattle.kp_base.specs.declared.lit.Lit.{Lit}
use Rattle.kp_base.specs.declared.ground.Effect.{Effect}
use Rattle.kp_base.specs.declared.ground.Action.{Action}
use Rattle.kp_base.specs.declared.ground.Ground.{Ground}
use Rattle.kp_base.specs.declared.ground.TagTable.{TagTable}
use Rattle.kp_base.specs.declared.ground.FactOf.{FactOf}
use Rattle.kp_base.specs.declared.ground.Merge.{Merge}
use Rattle.kp_base.specs.Lists.{Member}
use Rattle.kp_base.specs.Lit.{negated}
use Rattle.kp_base.specs.Relevance.{IsRelevant}
use Rattle.kp_base.specs.Linked.{is_relevant, ActsOnItsAtoms}
use Rattle.kp_base.specs.Matters.{Matters, facts_of, is_fact, number}

-- the test tells relevance
abbrev pub RelevanceIsLinked : Type 0
RelevanceIsLinked = (g : Ground) → ActsOnItsAtoms g → (l m : Lit) → (is_relevant g l m ≡ true) ↔ IsRelevant g.actions l m

-- the list has just the facts of the tags and atoms that matter, and each stands at its number
pub record AreFactsOf (g : Ground) (table : TagTable) (fs : List FactOf) : Type 0 where
  pub exact : (t : ℕ) (l : Lit) → t < length table.tags → l.atom.0 < length g.atoms → (is_fact fs t l ≡ true) ↔ Matters g table t l
  pub of_tags : (f : FactOf) → Member fs f → f.tag < length table.tags
  pub of_atoms : (f : FactOf) → Member fs f → f.lit.atom.0 < length g.atoms
  pub numbered : (t : ℕ) (l : Lit) → is_fact fs t l ≡ true → slice_get fs (number fs (record { lit = l; tag = t })) ≡ Some (record { lit = l; tag = t })

-- the list of facts is so
abbrev pub FactsAreTold : Type 0
FactsAreTold = (g : Ground) (table : TagTable) → ActsOnItsAtoms g → AreFactsOf g table (facts_of g table)

-- whichever facts these are: what is asked of facts, what makes or cancels one, is among them
pub record AreClosed (g : Ground) (table : TagTable) (fs : List FactOf) : Type 0 where
  pub under_tag_0 : (l : Lit) → l.atom.0 < length g.atoms → is_fact fs 0 l ≡ true
  pub merged : (m : Merge) (t : ℕ) → Member table.merges m → Member m.tags t → t < length table.tags → m.target.atom.0 < length g.atoms → is_fact fs t m.target ≡ true
  pub supported : (t : ℕ) (a : Action) (e : Effect) (c : Lit) → Member g.actions a → Member a.effects e → Member e.cond c → is_fact fs t e.result ≡ true → is_fact fs t c ≡ true
  pub cancelled : (t : ℕ) (a : Action) (e : Effect) (c : Lit) → Member g.actions a → Member a.effects e → Member e.cond c → is_fact fs t (negated e.result) ≡ true → is_fact fs t (negated c) ≡ true

-- the facts of a task are
abbrev pub FactsAreClosed : Type 0
FactsAreClosed = (g : Ground) (table : TagTable) → 0 < length table.tags → ActsOnItsAtoms g → AreClosed g table (facts_of g table)
