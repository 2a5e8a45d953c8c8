-- Tags that take one literal of each clause, when tags cover a literal, and when a table is complete. (Palacios and Geffner, JAIR 35, 2009.)
-- A tag meets a clause. Tags cover a target where each meets each clause that is relevant to it (`Covers`; `AllMeet` where these clauses are listed). A set of clauses covers where its tags do (`IsCover` of `kp_cover`). A table covers a target (`IsCovered`).
use Rattle.std.specs.Prelude.{◌≡◌, ◌↔◌, Bool, true, List, [], ◌∷◌, Option, Some, None, filter, map, slice_get, length}
use Rattle.kp_base.specs.declared.lit.Lit.{Lit}
use Rattle.kp_base.specs.declared.ground.Action.{Action}
use Rattle.kp_base.specs.declared.ground.Ground.{Ground}
use Rattle.kp_base.specs.declared.ground.Initial.{Initial}
use Rattle.kp_base.specs.declared.ground.TagRow.{TagRow}
use Rattle.kp_base.specs.declared.ground.TagTable.{TagTable}
use Rattle.kp_base.specs.declared.ground.Merge.{Merge}
use Rattle.kp_base.specs.Lists.{Member, choices, each_once}
use Rattle.kp_base.specs.LitSet.{IsAscending, set_of, same_set}
use Rattle.kp_base.specs.Entailed.{IsConsistent, Entails, IsValid}
use Rattle.kp_base.specs.Relevance.{IsClauseFor}

-- ---- tags of clauses

-- the test tells which tags are consistent
abbrev pub TellsConsistent : Initial → (List Lit → Bool) → Type 0
TellsConsistent i test = (tag : List Lit) → (test tag ≡ true) ↔ IsConsistent i tag

-- the sets that take one literal of each clause and are consistent, each once, the first clause slowest; consistency is a statement and a list is filtered by a test, so any test that tells it will do
pub record AreTagsOfClauses (i : Initial) (clauses tags : List (List Lit)) : Type 0 where
  pub test : List Lit → Bool
  pub tells : TellsConsistent i test
  pub are : tags ≡ each_once same_set (filter test (map set_of (choices clauses)))

-- ---- covers

-- the tag entails some literal of the clause
pub record Meets (i : Initial) (tag c : List Lit) : Type 0 where
  pub lit : Lit
  pub of_clause : Member c lit
  pub entailed : Entails i tag lit

-- each tag does, of each clause
abbrev pub AllMeet : Initial → List (List Lit) → List (List Lit) → Type 0
AllMeet i tags clauses = (tag c : List Lit) → Member tags tag → Member clauses c → Meets i tag c

-- the tags cover the target: each entails some literal of each clause that is relevant to it
abbrev pub Covers : Ground → Initial → List (List Lit) → Lit → Type 0
Covers g i tags target = (tag c : List Lit) → Member tags tag → IsClauseFor g.actions (length g.atoms) i target c → Meets i tag c

-- ---- complete tables

-- what has to be known in time: a literal of some precondition, or of the goal
pub data IsTarget (g : Ground) (l : Lit) : Type 0 where
  of_precondition : (a : Action) → Member g.actions a → Member a.pre l → IsTarget g l
  of_goal : Member g.goal l → IsTarget g l

-- the literals of a tag; none where there is no such tag
abbrev pub lits_of : Option TagRow → List Lit
lits_of None = []
lits_of (Some row) = row.lits

-- the tags of a merge
abbrev pub tags_of : TagTable → Merge → List (List Lit)
tags_of table m = map (λ t. lits_of (slice_get table.tags t)) m.tags

-- the empty tag covers the target, or the tags of a valid merge with that target do
pub data IsCovered (g : Ground) (i : Initial) (table : TagTable) (target : Lit) : Type 0 where
  by_empty_tag : Covers g i ([] ∷ []) target → IsCovered g i table target
  by_merge : (m : Merge) → Member table.merges m → m.target ≡ target → IsValid i table m → Covers g i (tags_of table m) target → IsCovered g i table target

-- each target is covered
pub record IsComplete (g : Ground) (i : Initial) (table : TagTable) : Type 0 where
  pub each : (l : Lit) → IsTarget g l → IsCovered g i table l

-- just the targets that aren't covered, in order
pub record AreUncovered (g : Ground) (i : Initial) (table : TagTable) (ls : List Lit) : Type 0 where
  pub exact : (l : Lit) → Member ls l ↔ (IsTarget g l × (IsCovered g i table l → ⊥))
  pub ascending : IsAscending ls
