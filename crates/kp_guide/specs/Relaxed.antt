-- The rules of a task that its goal may need, on the facts that they are about: each fact by its place in a list of these.
use Rattle.std.specs.Prelude.{◌≡◌, ◌<◌, ℕ, true, List, length, map, slice_index_or}
use Rattle.std.specs.List.{list_all}
use Rattle.kp_base.specs.Lists.{Member}
use Rattle.kp_classic.specs.declared.task.Task.{Task}
use Rattle.kp_classic.specs.Fits.{are_below}
use Rattle.kp_classic.specs.States.{FactSet, has}
use Rattle.kp_classic.specs.Steps.{Holding}
use Rattle.kp_guide.specs.declared.relaxation.Relaxation.{Relaxation}
use Rattle.kp_guide.specs.declared.rule.Rule.{Rule}
use Rattle.kp_guide.specs.Added.{rules_of, goal_of}
use Rattle.kp_guide.specs.CostTables.{fits_rule}

-- the fact at a place
abbrev pub at : List ℕ → ℕ → ℕ
at facts i = slice_index_or facts i 0

-- a rule whose fact and needs are places, with the facts at these
abbrev pub read : List ℕ → Rule → Rule
read facts r = record { fact = at facts r.fact; needs = map (at facts) r.needs }

-- each of these rules on places is one of all the rules on facts
pub record AreRead (all : List Rule) (facts : List ℕ) (rules : List Rule) : Type 0 where
  pub inside : list_all (fits_rule (length facts)) rules ≡ true
  pub known : (q : Rule) → Member rules q → Member all (read facts q)

-- among the rules on places is this rule, for its fact at this place
pub record HasPlaced (facts : List ℕ) (rules : List Rule) (i : ℕ) (r : Rule) : Type 0 where
  pub placed : Rule
  pub there : Member rules placed
  pub fact_is : placed.fact ≡ i
  pub needs_are : map (at facts) placed.needs ≡ r.needs

-- Of the task: each fact of the goal has a place, and each rule for a fact that has one is there.
pub record IsRelaxationOf (t : Task) (r : Relaxation) : Type 0 where
  pub below : are_below (length t.facts) r.facts.keys ≡ true
  pub goal_is : map (at r.facts.keys) r.goal ≡ goal_of t
  pub rules_are : AreRead (rules_of t) r.facts.keys r.index.rules.items
  pub each : (i : ℕ) (q : Rule) → i < length r.facts.keys → Member (rules_of t) q → q.fact ≡ at r.facts.keys i → HasPlaced r.facts.keys r.index.rules.items i q

-- what holds of the facts that have a place
abbrev pub held : Relaxation → FactSet → Holding
held r s i = has s.hold (at r.facts.keys i)
