-- Tags that are gathered one by one, and their rows. This file serves proofs alone.
use Rattle.std.specs.Prelude.{◌≡◌, ℕ, List, [], ◌∷◌, ◌++◌, if◌then◌else◌, map}
use Rattle.std.specs.List.{list_any}
use Rattle.kp_base.specs.declared.lit.Lit.{Lit}
use Rattle.kp_base.specs.declared.ground.Initial.{Initial}
use Rattle.kp_base.specs.declared.ground.TagRow.{TagRow}
use Rattle.kp_base.specs.Lists.{Member}
use Rattle.kp_base.specs.LitSet.{IsAscending, same_set}
use Rattle.kp_tags.specs.MergeTables.{HasClosure}

-- each is an ascending list
pub record AreSets (tags : List (List Lit)) : Type 0 where
  pub each : (t : List Lit) → Member tags t → IsAscending t

-- the tags with one more, where it is new
abbrev pub with_tag : List (List Lit) → List Lit → List (List Lit)
with_tag tags t = if list_any (same_set t) tags then tags else tags ++ t ∷ []

-- the tag with its closure
pub record IsRowOf (atoms : ℕ) (i : Initial) (tag : List Lit) (row : TagRow) : Type 0 where
  pub lits : row.lits ≡ tag
  pub closed : HasClosure atoms i row

-- each tag with its closure
pub record AreRows (atoms : ℕ) (i : Initial) (tags : List (List Lit)) (rows : List TagRow) : Type 0 where
  pub lits : map (λ row. row.lits) rows ≡ tags
  pub closed : (row : TagRow) → Member rows row → HasClosure atoms i row
