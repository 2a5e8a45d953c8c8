-- How the merges of a table are written, and that they read back.
use Rattle.std.specs.Prelude.{◌<◌, ℕ, length, List, [], map, slice_get, codes}
use Rattle.std.specs.List.{AllByRecursion, IsDistinct}
use Rattle.kp_base.specs.declared.lit.Lit.{Lit}
use Rattle.kp_base.specs.declared.ground.GroundName.{GroundName}
use Rattle.kp_base.specs.declared.ground.Merge.{Merge}
use Rattle.kp_base.specs.declared.ground.TagRow.{TagRow}
use Rattle.kp_base.specs.declared.ground.TagTable.{TagTable}
use Rattle.kp_base.specs.LitSet.{IsAscending}
use Rattle.kp_base.specs.Covering.{lits_of}
use Rattle.kp_tree_grammar.specs.Words.{IsName, IsHead}
use Rattle.kp_names_semantics.specs.GroundNames.{same_name}
use Rattle.kp_law_texts.specs.Pieces.{Piece, Put, ◌⨾◌, each, opens, closes, line_feed, name, spaced, spelling}
use Rattle.kp_plans_spelling.specs.Spelling.{lit_put, joined}
use Rattle.kp_tags_files.specs.declared.merge.FileMerge.{FileMerge}
use Rattle.kp_tags_files.specs.MergesFiles.{IsMergesOf}

-- ---- the merges of a table, with the tags themselves in place of their numbers

-- the tag of a number
abbrev pub tag_of : List TagRow → ℕ → List Lit
tag_of rows t = lits_of (slice_get rows t)

-- a merge with its tags
abbrev pub with_tags : List TagRow → Merge → FileMerge
with_tags rows m = record { target = m.target; tags = map (tag_of rows) m.tags }

-- all merges
abbrev pub merges_of : TagTable → List FileMerge
merges_of table = map (with_tags table.tags) table.merges

-- ---- their text

-- (LIT LIT)
abbrev pub tag_put : List GroundName → List Lit → Put
tag_put atoms lits = opens ⨾ joined (lit_put atoms) lits ⨾ closes

-- (merge LIT TAG TAG) on a line of its own
abbrev pub merge_line : List GroundName → FileMerge → Put
merge_line atoms m = opens ⨾ name (codes "merge") ⨾ spaced (lit_put atoms) m.target ⨾ each (spaced (tag_put atoms)) m.tags ⨾ closes ⨾ line_feed

-- a line for each merge
abbrev pub merges_pieces : List GroundName → List FileMerge → List Piece
merges_pieces atoms ms = each (merge_line atoms) ms []

-- the bytes of the lines
abbrev pub merges_text : List GroundName → List FileMerge → List ℕ
merges_text atoms ms = spelling (merges_pieces atoms ms)

-- ---- a law

-- the name of an atom: a head and objects, all in lower case
pub record IsAtomName (n : GroundName) : Type 0 where
  pub head : IsHead n.head
  pub objects : AllByRecursion IsName n.objects

-- the literal is of one of the atoms
pub record IsLitOn (atoms : List GroundName) (l : Lit) : Type 0 where
  pub below : l.atom.0 < length atoms

-- the tag is a set of such literals
pub record IsTagOn (atoms : List GroundName) (tag : List Lit) : Type 0 where
  pub lits : AllByRecursion (IsLitOn atoms) tag
  pub ascending : IsAscending tag

-- the merge is of such literals and tags
pub record IsMergeOn (atoms : List GroundName) (m : FileMerge) : Type 0 where
  pub target : IsLitOn atoms m.target
  pub tags : AllByRecursion (IsTagOn atoms) m.tags

-- the names of the atoms are names and differ, and the merges are of these atoms
pub record CanBeWritten (atoms : List GroundName) (ms : List FileMerge) : Type 0 where
  pub names : AllByRecursion IsAtomName atoms
  pub differ : IsDistinct same_name atoms
  pub merges : AllByRecursion (IsMergeOn atoms) ms

-- merges that can be written are read back
abbrev pub WrittenMergesRead : Type 0
WrittenMergesRead = (atoms : List GroundName) (ms : List FileMerge) → CanBeWritten atoms ms → IsMergesOf atoms (merges_text atoms ms) ms
