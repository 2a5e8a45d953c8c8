-- What pieces read as, put together.
use Rattle.std.specs.Prelude.{◌≡◌, ℕ, List, Bool}
use Rattle.kp_tree_grammar.specs.declared.tree.Word.{Word}
use Rattle.kp_tree_grammar.specs.Language.{Sort, El, Form, ReadsWhole, ReadsAs}
use Rattle.kp_law_texts.specs.Pieces.{Piece, spelling}
use Rattle.kp_law_texts.specs.Tokens.{words, Fine}
use Rattle.kp_law_texts.specs.Maps.{without_places}

-- the text is cut and reads by the form as a tree that is y without its places
pub record ReadsAsBare {b : Bool} {c : Sort} (X : Form b c) (text : List ℕ) (y : El (List ℕ) c) : Type 0 where
  pub tree : El Word c
  pub is : without_places c tree ≡ y
  pub reads : ReadsAs X text tree

-- ---- a law

-- what the words of fine pieces read as, the text that they spell reads as
abbrev pub PiecesReadAsTheirWords : Type 0
PiecesReadAsTheirWords = (b : Bool) (c : Sort) (X : Form b c) (ps : List Piece) (y : El (List ℕ) c) → Fine ps → ReadsWhole X (words ps) y → ReadsAsBare X (spelling ps) y
