-- The tokens of pieces, and which pieces are cut into just these.
use Rattle.std.specs.Prelude.{◌≡◌, ℕ, ◌+◌, List, [], ◌∷◌, length, map, true}
use Rattle.kp_lex.specs.declared.token.TokenKind.{TokenKind}
use Rattle.kp_lex.specs.declared.token.TokenKind.TheVariants as kinds
use Rattle.kp_lex.specs.declared.token.Token.{Token}
use Rattle.kp_lex.specs.Bytes.{class_of, follows, is_blank}
use Rattle.kp_lex.specs.Cutting.{IsToken, EndsRunOf, spanned, Cut}
use Rattle.kp_tree_grammar.specs.declared.symbol.Symbol.TheVariants as symbols
use Rattle.kp_tree_grammar.specs.declared.tree.Word.{Word}
use Rattle.kp_tree_grammar.specs.Symbols.{Tok, symbol_of, all_seen_in}
use Rattle.kp_tree_grammar.specs.Words.{IsLow}
use Rattle.kp_law_texts.specs.Pieces.{Piece, left, right, blank, word, spelling}

-- the spans of the brackets and words, from a byte on
abbrev pub spans : ℕ → List Piece → List Token
spans at [] = []
spans at (left ∷ ps) = spanned kinds.Left at 1 ∷ spans (at + 1) ps
spans at (right ∷ ps) = spanned kinds.Right at 1 ∷ spans (at + 1) ps
spans at (blank b ∷ ps) = spans (at + 1) ps
spans at (word k w ∷ ps) = spanned k at (length w) ∷ spans (at + length w) ps

-- the same as tokens of the grammar, without places
abbrev pub words : List Piece → List (Tok (List ℕ))
words [] = []
words (left ∷ ps) = record { symbol = symbols.Left; word = 40 ∷ [] } ∷ words ps
words (right ∷ ps) = record { symbol = symbols.Right; word = 41 ∷ [] } ∷ words ps
words (blank b ∷ ps) = words ps
words (word k w ∷ ps) = record { symbol = symbol_of k w; word = w } ∷ words ps

-- Each word is a token of its kind in lower case, what follows it doesn't go on with it, and each blank is one.
pub data Fine : List Piece → Type 0 where
  done : Fine []
  lefts : {ps : List Piece} → Fine ps → Fine (left ∷ ps)
  rights : {ps : List Piece} → Fine ps → Fine (right ∷ ps)
  blanks : {b : ℕ} {ps : List Piece} → is_blank (class_of b) ≡ true → Fine ps → Fine (blank b ∷ ps)
  says : {k : TokenKind} {w : List ℕ} {ps : List Piece} → IsToken k w → IsLow w → EndsRunOf follows (spelling ps) → Fine ps → Fine (word k w ∷ ps)

-- a word of a text, without its place
abbrev pub text_of : Word → List ℕ
text_of w = w.text

-- a token without its place
abbrev pub bare : Tok Word → Tok (List ℕ)
bare t = record { symbol = t.symbol; word = text_of t.word }

-- the pieces, put together, are cut at their spans, and the tokens there are their words
pub record IsCutAsSaid (ps : List Piece) : Type 0 where
  pub cut : Cut 0 (spelling ps) (spans 0 ps)
  pub seen : map bare (all_seen_in (spelling ps) (spans 0 ps)) ≡ words ps

-- ---- a law

-- fine pieces are cut as they say
abbrev pub FinePiecesAreCut : Type 0
FinePiecesAreCut = (ps : List Piece) → Fine ps → IsCutAsSaid ps
