-- A text as a list of pieces: brackets, words, and bytes between them.
use Rattle.std.specs.Prelude.{◌≡◌, ℕ, List, [], ◌∷◌, ◌++◌}
use Rattle.kp_lex.specs.declared.token.TokenKind.{TokenKind}
use Rattle.kp_lex.specs.declared.token.TokenKind.TheVariants as kinds

-- a bracket, a byte between words, or a word with its kind of token
pub data Piece : Type 0 where
  left : Piece
  right : Piece
  blank : ℕ → Piece
  word : TokenKind → List ℕ → Piece

-- the bytes of the pieces
abbrev pub spelling : List Piece → List ℕ
spelling [] = []
spelling (left ∷ ps) = 40 ∷ spelling ps
spelling (right ∷ ps) = 41 ∷ spelling ps
spelling (blank b ∷ ps) = b ∷ spelling ps
spelling (word k w ∷ ps) = w ++ spelling ps

-- what puts pieces in front of those that follow
abbrev pub Put : Type 0
Put = List Piece → List Piece

-- one after the other
infixr 5 ◌⨾◌
abbrev pub ◌⨾◌ : Put → Put → Put
(f ⨾ g) rest = f (g rest)

-- one for each of a list
abbrev pub each : {T : Type 0} → (T → Put) → List T → Put
each f [] rest = rest
each f (x ∷ xs) rest = f x (each f xs rest)

-- an opening bracket
abbrev pub opens : Put
opens rest = left ∷ rest

-- a closing bracket
abbrev pub closes : Put
closes rest = right ∷ rest

-- a space
abbrev pub space : Put
space rest = blank 32 ∷ rest

-- a line feed
abbrev pub line_feed : Put
line_feed rest = blank 10 ∷ rest

-- a name
abbrev pub name : List ℕ → Put
name w rest = word kinds.Name w ∷ rest

-- a keyword
abbrev pub key : List ℕ → Put
key w rest = word kinds.Keyword w ∷ rest

-- with a space before it
abbrev pub spaced : {T : Type 0} → (T → Put) → T → Put
spaced f x = space ⨾ f x

-- bytes that were written: the pieces that f puts in front, whatever follows
pub record Puts (before now : List ℕ) (f : Put) : Type 0 where
  pub puts : (rest : List Piece) → now ++ spelling rest ≡ before ++ spelling (f rest)
