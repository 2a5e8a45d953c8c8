-- Tables and rows of bits, step by step. This file serves proofs alone.
use Rattle.std.specs.Prelude.{◌≡◌, ◌<◌, ◌*◌, ℕ, Bool, true, false, List, [], length, get_or, nat_eq, replicate}
use Rattle.std.specs.List.{list_any}
use Rattle.kp_base.specs.declared.lit.Lit.{Lit}
use Rattle.kp_base.specs.declared.ground.Effect.{Effect}
use Rattle.kp_base.specs.Machine.{Known}
use Rattle.kp_lift_knowledge.specs.Known.{Table, known, IsLike, Says}

-- a row has a bit for each of n tags, set where the test holds
pub record Tells (n : ℕ) (row : List Bool) (f : ℕ → Bool) : Type 0 where
  pub wide : length row ≡ n
  pub each : (t : ℕ) → t < n → get_or row t false ≡ f t

-- there is a row for each literal, of a bit for each tag
pub record IsWhole (table : Table) : Type 0 where
  pub many : length table.rows ≡ 2 * table.atoms
  pub wide : (j : ℕ) → j < 2 * table.atoms → length (get_or table.rows j []) ≡ table.tags

-- the new table is as large as the old one, and says this
pub record Turns (old new : Table) (k : Known) : Type 0 where
  pub like : IsLike new old
  pub says : Says new k

-- n rows of as many zeros as there are tags
pub record AreClear (tags n : ℕ) (rows : List (List Bool)) : Type 0 where
  pub many : length rows ≡ n
  pub bits : (j : ℕ) → j < n → get_or rows j [] ≡ replicate tags false

-- a table of so many tags and atoms, in which nothing is known
pub record IsBlank (tags atoms : ℕ) (table : Table) : Type 0 where
  pub of_tags : table.tags ≡ tags
  pub of_atoms : table.atoms ≡ atoms
  pub says : Says table (λ t l. false)

-- the first row has no bit set, and the second has all
pub record AreEnds (n : ℕ) (none all : List Bool) : Type 0 where
  pub clear : none ≡ replicate n false
  pub full : Tells n all (λ t. true)

-- some effect has a result of this literal's atom
abbrev pub touches : List Effect → Lit → Bool
touches es l = list_any (λ e. nat_eq e.result.atom.0 l.atom.0) es

-- between steps the second table says what the first does, and the row beside them has a bit for each tag
pub record IsAtRest (table next : Table) (met : List Bool) : Type 0 where
  pub like : IsLike next table
  pub same : Says next (known table)
  pub wide : length met ≡ table.tags
