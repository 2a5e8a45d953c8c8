-- How a text is cut into tokens, and which byte is bad where it is not cut.
use Rattle.std.specs.Prelude.{◌≡◌, ◌≤◌, ◌+◌, ℕ, suc, List, [], ◌∷◌, ◌++◌, length, Bool, true, false}
use Rattle.kp_lex.specs.declared.token.TokenKind.{TokenKind}
use Rattle.kp_lex.specs.declared.token.TokenKind.TheVariants as kinds
use Rattle.kp_lex.specs.declared.token.Token.{Token}
use Rattle.kp_lex.specs.declared.class.Class.TheVariants as classes
use Rattle.kp_lex.specs.Bytes.{class_of, follows, in_line, is_blank, is_semicolon}

-- each byte passes the test
abbrev pub AllAre : (ℕ → Bool) → List ℕ → Type 0
AllAre p [] = Unit {0}
AllAre p (b ∷ bs) = (p b ≡ true) × AllAre p bs

-- The bytes are one token of that kind: ( or ) or - or =, a name, or ? or : with a name behind it.
pub data IsToken : TokenKind → List ℕ → Type 0 where
  left : {b : ℕ} → class_of b ≡ classes.Left → IsToken kinds.Left (b ∷ [])
  right : {b : ℕ} → class_of b ≡ classes.Right → IsToken kinds.Right (b ∷ [])
  dash : {b : ℕ} → class_of b ≡ classes.Dash → IsToken kinds.Dash (b ∷ [])
  equal : {b : ℕ} → class_of b ≡ classes.Equal → IsToken kinds.Equal (b ∷ [])
  name : {b : ℕ} {bs : List ℕ} → class_of b ≡ classes.Alphanumeric → AllAre follows bs → IsToken kinds.Name (b ∷ bs)
  variable : {q b : ℕ} {bs : List ℕ} → class_of q ≡ classes.Question → class_of b ≡ classes.Alphanumeric → AllAre follows bs → IsToken kinds.Variable (q ∷ b ∷ bs)
  keyword : {q b : ℕ} {bs : List ℕ} → class_of q ≡ classes.Colon → class_of b ≡ classes.Alphanumeric → AllAre follows bs → IsToken kinds.Keyword (q ∷ b ∷ bs)

-- no token at the front of the text has more bytes than w
abbrev pub IsLongest : List ℕ → List ℕ → Type 0
IsLongest w text = (k : TokenKind) (v rest : List ℕ) → IsToken k v → text ≡ v ++ rest → length v ≤ length w

-- no token is at the front of the text
abbrev pub BeginsNone : List ℕ → Type 0
BeginsNone text = (k : TokenKind) (v rest : List ℕ) → IsToken k v → text ≡ v ++ rest → ⊥

-- the text is at its end, or its first byte fails the test
abbrev pub EndsRunOf : (ℕ → Bool) → List ℕ → Type 0
EndsRunOf p [] = Unit {0}
EndsRunOf p (b ∷ bs) = p b ≡ false

-- a line feed or the text's end comes next, so a comment up to there is the longest
abbrev pub EndsLine : List ℕ → Type 0
EndsLine bs = EndsRunOf in_line bs

-- the token of n bytes from a byte on
abbrev pub spanned : TokenKind → ℕ → ℕ → Token
spanned k at n = record { kind = k; from = at; to = at + n }

-- The text, whose first byte has the number `at`, is a sequence of blanks, comments and the tokens,
-- each comment and token the longest that begins there.
pub data Cut : ℕ → List ℕ → List Token → Type 0 where
  at_end : {at : ℕ} → Cut at [] []
  past_blank : {at b : ℕ} {bs : List ℕ} {ts : List Token} → is_blank (class_of b) ≡ true → Cut (at + 1) bs ts → Cut at (b ∷ bs) ts
  past_comment : {at s : ℕ} (w rest : List ℕ) {ts : List Token} → is_semicolon (class_of s) ≡ true → AllAre in_line w → EndsLine rest → Cut (at + suc (length w)) rest ts → Cut at (s ∷ (w ++ rest)) ts
  a_token : {at : ℕ} {k : TokenKind} {w rest : List ℕ} {ts : List Token} → IsToken k w → IsLongest w (w ++ rest) → Cut (at + length w) rest ts → Cut at (w ++ rest) (spanned k at (length w) ∷ ts)

-- The byte with that number comes behind blanks, comments and tokens, each comment and token the longest
-- that begins there, and begins none of the three itself.
pub data BadAt : ℕ → List ℕ → ℕ → Type 0 where
  bad_here : {at b : ℕ} {bs : List ℕ} → is_blank (class_of b) ≡ false → is_semicolon (class_of b) ≡ false → BeginsNone (b ∷ bs) → BadAt at (b ∷ bs) at
  bad_past_blank : {at b i : ℕ} {bs : List ℕ} → is_blank (class_of b) ≡ true → BadAt (at + 1) bs i → BadAt at (b ∷ bs) i
  bad_past_comment : {at s i : ℕ} (w rest : List ℕ) → is_semicolon (class_of s) ≡ true → AllAre in_line w → EndsLine rest → BadAt (at + suc (length w)) rest i → BadAt at (s ∷ (w ++ rest)) i
  bad_past_token : {at i : ℕ} {k : TokenKind} {w rest : List ℕ} → IsToken k w → IsLongest w (w ++ rest) → BadAt (at + length w) rest i → BadAt at (w ++ rest) i
