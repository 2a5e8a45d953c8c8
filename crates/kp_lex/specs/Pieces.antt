-- For proofs alone: the piece that stands at the front of bytes.
use Rattle.std.specs.Prelude.{◌≤◌, ◌<◌, ◌+◌, ℕ, suc, List, [], ◌∷◌, length}
use Rattle.std.specs.List.{prefix_len}
use Rattle.kp_lex.specs.declared.token.TokenKind.{TokenKind}
use Rattle.kp_lex.specs.declared.token.TokenKind.TheVariants as kinds
use Rattle.kp_lex.specs.declared.class.Class.{Class}
use Rattle.kp_lex.specs.declared.class.Class.TheVariants as classes
use Rattle.kp_lex.specs.declared.piece.Piece.{Piece}
use Rattle.kp_lex.specs.declared.piece.Piece.TheVariants.{Skip, Token, Bad}
use Rattle.kp_lex.specs.Bytes.{class_of, follows, in_line}

-- behind a sign: a name, if its first byte has this class
abbrev pub signed_class : TokenKind → Class → List ℕ → Piece
signed_class k classes.Alphanumeric bs = Token k (suc (suc (prefix_len follows bs)))
signed_class k _ bs = Bad

-- behind a sign: a name, or nothing that may stand there
abbrev pub signed : TokenKind → List ℕ → Piece
signed k [] = Bad
signed k (b ∷ bs) = signed_class k (class_of b) bs

-- what stands at the front, by the class of the first byte, and how many bytes it takes
abbrev pub piece_class : Class → List ℕ → Piece
piece_class classes.Alphanumeric bs = Token kinds.Name (suc (prefix_len follows bs))
piece_class classes.Left bs = Token kinds.Left 1
piece_class classes.Right bs = Token kinds.Right 1
piece_class classes.Dash bs = Token kinds.Dash 1
piece_class classes.Equal bs = Token kinds.Equal 1
piece_class classes.Question bs = signed kinds.Variable bs
piece_class classes.Colon bs = signed kinds.Keyword bs
piece_class classes.Semicolon bs = Skip (suc (prefix_len in_line bs))
piece_class classes.LineFeed bs = Skip 1
piece_class classes.Blank bs = Skip 1
piece_class _ bs = Bad

-- what stands at the front
abbrev pub piece_of : List ℕ → Piece
piece_of [] = Bad
piece_of (b ∷ bs) = piece_class (class_of b) bs

-- it takes a byte at least, and no more than there are
abbrev pub FitsIn : Piece → List ℕ → Type 0
FitsIn (Skip n) bs = (0 < n) × (n ≤ length bs)
FitsIn (Token k n) bs = (0 < n) × (n ≤ length bs)
FitsIn Bad bs = Unit {0}

-- the same, with the sign counted
abbrev pub FitsInSigned : Piece → List ℕ → Type 0
FitsInSigned (Skip n) bs = ⊥
FitsInSigned (Token k n) bs = (0 < n) × (n ≤ length bs + 1)
FitsInSigned Bad bs = Unit {0}
