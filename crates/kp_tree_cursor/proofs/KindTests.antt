-- What the kind of the token that stands first says of its symbol.
use Rattle.std.proofs.Common.{◌≡◌, Bool, true, false, List, ◌∷◌, sym}
use Rattle.std.specs.Bool.{OnTrue, OnFalse}
use Rattle.kp_lex.specs.declared.token.TokenKind.{TokenKind}
use Rattle.kp_tree_grammar.specs.declared.tree.Word.{Word}
use Rattle.kp_tree_grammar.specs.Symbols.{Tok, symbol_of, first_is, kind_test}
use Rattle.kp_tree_grammar.proofs.Public.{own_kind_passes, other_kind_fails}
use Rattle.kp_tree_cursor.specs.Readers.{Shown}

module _ (k j : TokenKind) (w : Word) (us vs : List (Tok Word)) (b : Bool) (is : us ≡ record { symbol = symbol_of j w.text; word = w } ∷ vs) where
  pub told : OnTrue b (j ≡ k) → OnFalse b (j ≡ k → ⊥) → b ≡ first_is (kind_test k) us
  told same different = rw is (go b same different) where
    go : (v : Bool) → OnTrue v (j ≡ k) → OnFalse v (j ≡ k → ⊥) → v ≡ kind_test k (symbol_of j w.text)
    go true same different = rw same (sym (own_kind_passes k w.text))
    go false same different = sym (other_kind_fails k j w.text different)

  pub shown : OnTrue b (j ≡ k) → OnTrue b (Shown (kind_test k) us vs)
  shown same = go b same where
    go : (v : Bool) → OnTrue v (j ≡ k) → OnTrue v (Shown (kind_test k) us vs)
    go true same = record { token = record { symbol = symbol_of j w.text; word = w }; is = is; passes = rw same (own_kind_passes k w.text) }
    go false same = tt
