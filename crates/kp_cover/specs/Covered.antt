-- How it is decided which targets are covered. This file serves proofs alone.
use Rattle.std.specs.Prelude.{◌≡◌, ◌↔◌, ◌⊎◌, ◌≤◌, ◌*◌, ◌||◌, ◌++◌, ℕ, Bool, IsTrue, true, false, not, if◌then◌else◌, List, [], ◌∷◌, Option, Some, None, slice_get, length, fold}
use Rattle.std.specs.List.{list_any, list_all, flat_map}
use Rattle.kp_base.specs.declared.lit.Lit.{Lit}
use Rattle.kp_base.specs.declared.ground.Ground.{Ground}
use Rattle.kp_base.specs.declared.ground.Initial.{Initial}
use Rattle.kp_base.specs.declared.ground.TagRow.{TagRow}
use Rattle.kp_base.specs.declared.ground.TagTable.{TagTable}
use Rattle.kp_base.specs.declared.ground.Merge.{Merge}
use Rattle.kp_base.specs.Planning.{Member, negated, IsAscending, with_lit, IsValid, IsTable, IsCovered}
use Rattle.kp_base.specs.Lit.{has}
use Rattle.kp_primes.specs.Held.{Held, formula}
use Rattle.kp_relevance.specs.Relevant.{ArePairsOf}
use Rattle.kp_cover.specs.Grown.{is_fine}
use Rattle.kp_cover.specs.declared.tags.Validity.{Validity}
use Rattle.kp_cover.specs.declared.tags.Validity.TheVariants.{Valid, Invalid}

-- ---- tags by number

-- the closure has a literal of each clause; not where there is no such tag
abbrev pub row_meets : List (List Lit) → Option TagRow → Bool
row_meets cs None = false
row_meets cs (Some row) = list_all (list_any (has row.closure)) cs

-- the tag, where there is one
abbrev pub found : Option TagRow → List (List Lit)
found None = []
found (Some row) = row.lits ∷ []

abbrev pub tags_found : TagTable → List ℕ → List (List Lit)
tags_found table ts = flat_map (λ t. found (slice_get table.tags t)) ts

-- the closure of each tag has a literal of each clause
abbrev pub all_rows_meet : TagTable → List (List Lit) → List ℕ → Bool
all_rows_meet table cs ts = list_all (λ t. row_meets cs (slice_get table.tags t)) ts

-- ---- valid tags

-- there is no consistent way to deny a literal of each tag
abbrev pub all_inside : List (List Lit) → List Lit → List (List Lit) → Bool
all_inside ps known [] = false
all_inside ps known (t ∷ tags) = list_all (λ l. not (is_fine ps (with_lit (negated l) known)) || all_inside ps (with_lit (negated l) known) tags) t

-- how many ways there are to choose a literal of each tag
abbrev pub ways : List (List Lit) → ℕ
ways tags = fold (λ n t. n * length t) 1 tags

-- there are few ways to choose a literal of each tag, and few tags
pub record AreFew (tags : List (List Lit)) : Type 0 where
  pub few_tags : length tags ≤ 1024
  pub few_ways : ways tags ≤ 64

-- the answer is that tags are valid
abbrev pub says_valid : Validity → Bool
says_valid Valid = true
says_valid (Invalid ps) = false

-- ---- targets

-- the merge is of the target, valid, and the closures of its tags meet the clauses
pub record CoversBy (i : Initial) (table : TagTable) (cs : List (List Lit)) (target : Lit) (m : Merge) : Type 0 where
  pub same : m.target ≡ target
  pub meets : all_rows_meet table cs m.tags ≡ true
  pub valid : IsValid i table m

-- some merge is so
pub record HasCover (i : Initial) (table : TagTable) (cs : List (List Lit)) (target : Lit) (ms : List Merge) : Type 0 where
  pub merge : Merge
  pub merge_in : Member ms merge
  pub covers : CoversBy i table cs target merge

-- none of these merges covers
pub record HasNone (i : Initial) (table : TagTable) (cs : List (List Lit)) (target : Lit) (ms : List Merge) : Type 0 where
  pub none : (m : Merge) → Member ms m → CoversBy i table cs target m → ⊥

-- what is given where coverage is asked
pub record IsAsked (g : Ground) (pairs : List (Lit × Lit)) (h : Held) (table : TagTable) : Type 0 where
  pub of_ground : ArePairsOf g pairs
  pub atoms : length g.atoms ≡ h.atoms
  pub right : IsTable g (formula h) table

-- whether a target is covered
abbrev pub TellsCovered : List (Lit × Lit) → Held → TagTable → Lit → Bool → Type 0
TellsCovered pairs h table l b = (g : Ground) → IsAsked g pairs h table → IsTrue b ↔ IsCovered g (formula h) table l

-- these literals are left of those seen, the others are covered
pub record AreLeft (covered : Lit → Type 0) (seen left : List Lit) : Type 0 where
  pub kept : (l : Lit) → Member left l → Member seen l × (covered l → ⊥)
  pub each : (l : Lit) → Member seen l → Member left l ⊎ covered l
  pub ascending : IsAscending left

abbrev pub LeavesUncovered : List (Lit × Lit) → Held → TagTable → List Lit → List Lit → Type 0
LeavesUncovered pairs h table seen left = (g : Ground) → IsAsked g pairs h table → AreLeft (IsCovered g (formula h) table) seen left

-- a target is put behind these, unless it is covered
pub record AddsUncovered (pairs : List (Lit × Lit)) (h : Held) (table : TagTable) (l : Lit) (old new : List Lit) : Type 0 where
  pub covered : Bool
  pub tells : TellsCovered pairs h table l covered
  pub are : new ≡ (if covered then old else old ++ l ∷ [])
