-- What initial states have in common, and when a tag table is right about it.
use Rattle.std.specs.Prelude.{◌≡◌, ◌<◌, ℕ, Bool, true, false, List, [], Option, Some, None, slice_get, length}
use Rattle.std.specs.List.{list_any, list_all}
use Rattle.kp_base.specs.declared.lit.Lit.{Lit}
use Rattle.kp_base.specs.declared.ground.Ground.{Ground}
use Rattle.kp_base.specs.declared.ground.Initial.{Initial}
use Rattle.kp_base.specs.declared.ground.TagRow.{TagRow}
use Rattle.kp_base.specs.declared.ground.TagTable.{TagTable}
use Rattle.kp_base.specs.declared.ground.Merge.{Merge}
use Rattle.kp_base.specs.Lists.{Member}
use Rattle.kp_base.specs.Steps.{State, holds, has, is_model}

-- ---- tags

-- each model in which the literals are true makes this one true
abbrev pub Entails : Initial → List Lit → Lit → Type 0
Entails i lits l = (s : State) → is_model i s ≡ true → list_all (holds s) lits ≡ true → holds s l ≡ true

-- the literals are true together in some model
pub record IsConsistent (i : Initial) (lits : List Lit) : Type 0 where
  pub state : State
  pub model : is_model i state ≡ true
  pub all_true : list_all (holds state) lits ≡ true

-- some state is a model
abbrev pub HasModel : Initial → Type 0
HasModel i = IsConsistent i []

-- no state is a model
abbrev pub HasNoModel : Initial → Type 0
HasNoModel i = HasModel i → ⊥

-- the closure of a tag: the literals of ground atoms that it entails
pub record IsClosure (atoms : ℕ) (i : Initial) (lits closure : List Lit) : Type 0 where
  pub of_atoms : (l : Lit) → has closure l ≡ true → l.atom.0 < atoms
  pub entailed : (l : Lit) → has closure l ≡ true → Entails i lits l
  pub whole : (l : Lit) → l.atom.0 < atoms → Entails i lits l → has closure l ≡ true

-- the atom has the same value in all models
abbrev pub HasOneValue : Initial → ℕ → Type 0
HasOneValue i q = (s t : State) → is_model i s ≡ true → is_model i t ≡ true → s q ≡ t q

-- ---- formulas

-- both formulas have the same models
abbrev pub HaveSameModels : Initial → Initial → Type 0
HaveSameModels i j = (s : State) → is_model i s ≡ is_model j s

-- ---- merges

-- there is such a tag, and its literals are true in the state
abbrev pub tag_holds : Option TagRow → State → Bool
tag_holds None s = false
tag_holds (Some row) s = list_all (holds s) row.lits

-- each model makes one of the merge's tags true
abbrev pub IsValid : Initial → TagTable → Merge → Type 0
IsValid i table m = (s : State) → is_model i s ≡ true → list_any (λ t. tag_holds (slice_get table.tags t) s) m.tags ≡ true

-- each merge of the table is valid
pub record AreValid (i : Initial) (table : TagTable) : Type 0 where
  pub each : (m : Merge) → Member table.merges m → IsValid i table m

-- ---- tables

-- tag 0 is empty, merges have tags of the table, and each tag stands with its closure
pub record IsTable (g : Ground) (i : Initial) (table : TagTable) : Type 0 where
  pub first : (row : TagRow) × (slice_get table.tags 0 ≡ Some row) × (row.lits ≡ [])
  pub tags : (m : Merge) (t : ℕ) → Member table.merges m → Member m.tags t → t < length table.tags
  pub closures : (row : TagRow) → Member table.tags row → IsClosure (length g.atoms) i row.lits row.closure
