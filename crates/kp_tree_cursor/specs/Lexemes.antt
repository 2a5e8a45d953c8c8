-- The tokens of the program as tokens of the grammar. The calls of this crate speak of it; what is promised of whole files doesn't.
use Rattle.std.specs.Prelude.{◌≡◌, ℕ, List, [], ◌∷◌, length, drop, slice_range}
use Rattle.std.specs.Str.{str_to_ascii_lowercase}
use Rattle.kp_lex.specs.declared.token.Token.{Token}
use Rattle.kp_lex.specs.Cutting.{Cut}
use Rattle.kp_tree_grammar.specs.declared.tree.Word.{Word}
use Rattle.kp_tree_grammar.specs.Language.{Term, Tok, symbol_of, apply, term_maker}
use Rattle.kp_tree_cursor.specs.declared.lexeme.Lexeme.{Lexeme}

-- a token of the program
abbrev pub tok : Lexeme → Tok Word
tok l = record { symbol = l.symbol; word = record { text = l.text.now; byte = l.byte } }

-- the word of a token
abbrev pub word_of : Tok Word → Word
word_of t = t.word

-- the term that it is
abbrev pub term_of : Tok Word → Term Word
term_of t = apply Word (term_maker t.symbol) t.word

-- the tokens from the place i on
abbrev pub from : List (Tok Word) → ℕ → List (Tok Word)
from ts i = drop i ts

-- a token of a text that is in lower case
abbrev pub lexed : List ℕ → Token → Tok Word
lexed lower t = record { symbol = symbol_of t.kind (slice_range lower t.from t.to); word = record { text = slice_range lower t.from t.to; byte = t.from } }

-- the bytes are a text in lower case that is cut into the tokens
pub record AreCutFrom (lower : List ℕ) (tokens : List Token) : Type 0 where
  pub text : List ℕ
  pub lowered : lower ≡ str_to_ascii_lowercase text
  pub cut : Cut 0 text tokens

-- the byte at which the first of the tokens begins; with no token left, the end of the text
abbrev pub byte_at : List ℕ → List (Tok Word) → ℕ
byte_at text [] = length text
byte_at text (t ∷ ts) = t.word.byte
