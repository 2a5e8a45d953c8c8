-- The table of some merges, whether a mode made them or a file has them.
use Rattle.std.specs.Prelude.{◌≡◌, ℕ, Bool, List, [], ◌∷◌, map}
use Rattle.std.specs.List.{list_all, flat_map, position_or_len}
use Rattle.kp_base.specs.declared.lit.Lit.{Lit}
use Rattle.kp_base.specs.declared.ground.Initial.{Initial}
use Rattle.kp_base.specs.declared.ground.TagRow.{TagRow}
use Rattle.kp_base.specs.declared.ground.TagTable.{TagTable}
use Rattle.kp_base.specs.declared.ground.Merge.{Merge}
use Rattle.kp_base.specs.Planning.{Member, each_once, IsAscending, same_set, are_below, IsClosure}
use Rattle.kp_tags_files.specs.declared.merge.FileMerge.{FileMerge}

-- the tags of the merge are of the first n atoms
abbrev pub has_tags_of_atoms : ℕ → FileMerge → Bool
has_tags_of_atoms n m = list_all (are_below n) m.tags

-- ---- tags

-- the tags of merges in the order of their first use, behind the empty one, each once
abbrev pub used_tags : List FileMerge → List (List Lit)
used_tags ms = each_once same_set ([] ∷ flat_map (λ m. m.tags) ms)

-- a tag's number: its position
abbrev pub number_in : List (List Lit) → List Lit → ℕ
number_in tags t = position_or_len (same_set t) tags

-- ---- tables

-- a merge with its tags by number
abbrev pub numbered : List (List Lit) → FileMerge → Merge
numbered tags m = record { target = m.target; tags = map (number_in tags) m.tags }

-- a tag stands with its closure, as a set
pub record HasClosure (atoms : ℕ) (i : Initial) (row : TagRow) : Type 0 where
  pub closure : IsClosure atoms i row.lits row.closure
  pub ascending : IsAscending row.closure

-- the tags that are used, each with its closure, and the merges in order with their tags by number
pub record IsTableOf (atoms : ℕ) (i : Initial) (ms : List FileMerge) (table : TagTable) : Type 0 where
  pub tags : map (λ row. row.lits) table.tags ≡ used_tags ms
  pub closures : (row : TagRow) → Member table.tags row → HasClosure atoms i row
  pub merges : table.merges ≡ map (numbered (used_tags ms)) ms
