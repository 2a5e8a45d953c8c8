-- What rows of bits over tags, one for each literal, say is known.
use Rattle.std.specs.Prelude.{◌≡◌, ◌<◌, ℕ, Bool, false, List, [], length, get_or}
use Rattle.kp_base.specs.declared.lit.Lit.{Lit}
use Rattle.kp_base.specs.declared.ground.TagTable.{TagTable}
use Rattle.kp_base.specs.Lit.{code_of}
use Rattle.kp_base.specs.Machine.{Known, start}

-- how many tags and atoms there are, and a row for each literal, by its code, of a bit for each tag
pub record Table : Type 0 where
  pub tags : ℕ
  pub atoms : ℕ
  pub rows : List (List Bool)

-- a literal is known under a tag where the tag's bit is set in the literal's row
abbrev pub known : Table → Known
known table t l = get_or (get_or table.rows (code_of l) []) t false

-- the two are of as many tags and atoms
pub record IsLike (a b : Table) : Type 0 where
  pub tags : a.tags ≡ b.tags
  pub atoms : a.atoms ≡ b.atoms

-- what is known of the literals of the atoms under the tags
pub record Says (table : Table) (k : Known) : Type 0 where
  pub each : (t : ℕ) (l : Lit) → t < table.tags → l.atom.0 < table.atoms → known table t l ≡ k t l

-- a table for these tags, in which the literals of a tag's closure are known under it, and no others
pub record Starts (atoms : ℕ) (tags : TagTable) (table : Table) : Type 0 where
  pub of_tags : table.tags ≡ length tags.tags
  pub of_atoms : table.atoms ≡ atoms
  pub says : Says table (start tags)
