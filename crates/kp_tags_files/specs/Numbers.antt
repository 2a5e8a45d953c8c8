-- Merges that were read, with numbers in place of the names of atoms.
use Rattle.std.specs.Prelude.{◌≡◌, ℕ, List, Option, Some}
use Rattle.std.specs.List.{AllZip}
use Rattle.kp_base.specs.declared.ground.GroundName.{GroundName}
use Rattle.kp_base.specs.declared.lit.Lit.{Lit as Literal}
use Rattle.kp_base.specs.LitSet.{set_of}
use Rattle.kp_tree_grammar.specs.declared.tree.Word.{Word}
use Rattle.kp_tree_grammar.specs.Trees.{Lit}
use Rattle.kp_tags_files.specs.declared.merge.FileMerge.{FileMerge}
use Rattle.kp_tags_files.specs.Grammar.{MergeTree, name_of_atom}

-- which name has which number, if it has one
abbrev pub Numbers : Type 0
Numbers = GroundName → Option ℕ

-- the literal: its atom by number, and its sign
pub record IsLit (number : Numbers) (l : Lit Word) (x : Literal) : Type 0 where
  pub atom : number (name_of_atom l.atom) ≡ Some x.atom.0
  pub sign : x.positive ≡ l.positive

-- the tag: the set of its literals
pub record IsTag (number : Numbers) (ls : List (Lit Word)) (tag : List Literal) : Type 0 where
  pub lits : List Literal
  pub are : AllZip (IsLit number) ls lits
  pub set : tag ≡ set_of lits

-- the merge: its target, and its tags in order
pub record IsMerge (number : Numbers) (tree : MergeTree) (m : FileMerge) : Type 0 where
  pub target : IsLit number tree.0 m.target
  pub tags : AllZip (IsTag number) tree.1 m.tags
