-- What it is for a whole text to have a tree.
use Rattle.std.specs.Prelude.{ℕ, List, Bool}
use Rattle.kp_lex.specs.declared.token.Token.{Token}
use Rattle.kp_lex.specs.Cutting.{Cut}
use Rattle.kp_tree_grammar.specs.declared.tree.Word.{Word}
use Rattle.kp_tree_grammar.specs.Symbols.{all_seen_in}
use Rattle.kp_tree_grammar.specs.Sorts.{Sort, El}
use Rattle.kp_tree_grammar.specs.Forms.{Form}
use Rattle.kp_tree_grammar.specs.Reading.{ReadsWhole}

-- the text is cut, and all its tokens read by the form as this tree
pub record ReadsAs {b : Bool} {c : Sort} (X : Form b c) (text : List ℕ) (x : El Word c) : Type 0 where
  pub tokens : List Token
  pub cut : Cut 0 text tokens
  pub reads : ReadsWhole X (all_seen_in text tokens) x
