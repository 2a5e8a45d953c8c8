-- What the words of a command ask for.
use Rattle.std.specs.Prelude.{List, ℕ, Option, Some, None}
use Rattle.kp_base.specs.declared.limits.Mode.{Mode}
use Rattle.kp_words.specs.declared.verb.Verb.{Verb}
use Rattle.kp_words.specs.declared.source.Family.{Family}

-- A command, with the names of files and the values that its words say. A part for which it has no word is as if nothing were said of it.
pub record Asked : Type 0 where
  -- which command it is
  pub verb : Verb
  -- the two files that are read
  pub domain : List ℕ
  pub problem : List ℕ
  -- a file with a plan of these two, and one with a plan of written files
  pub plan : List ℕ
  pub written : List ℕ
  -- the two files that are written
  pub domain_out : List ℕ
  pub problem_out : List ℕ
  -- the mode in which tags and merges are made
  pub mode : Mode
  -- the file of merges that they come from instead, if one is named; the mode is then the usual one
  pub merges : Option (List ℕ)
  -- how many prime implicates a prefix of the initial clauses may have
  pub implicates : ℕ
  -- how many states a search may expand
  pub budget : ℕ
  -- the greatest size of a set of clauses
  pub bound : ℕ
  -- the file that the classical plan is written to, if it is
  pub classical : Option (List ℕ)
  -- a generated problem: its family and its size
  pub family : Family
  pub size : ℕ

-- ---- where tags and merges come from

-- from a mode, or from a file of merges of this name
pub data Source : Type 0 where
  of_mode : Mode → Source
  of_file : List ℕ → Source

-- from the named file, or else from the mode
abbrev pub source_by : Mode → Option (List ℕ) → Source
source_by mode None = of_mode mode
source_by mode (Some name) = of_file name

-- those of a command
abbrev pub source_of : Asked → Source
source_of c = source_by c.mode c.merges
