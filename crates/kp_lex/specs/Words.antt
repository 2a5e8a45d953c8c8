-- The text of a token.
use Rattle.std.specs.Prelude.{ℕ, List, slice_range}
use Rattle.std.specs.Str.{str_to_ascii_lowercase}
use Rattle.kp_lex.specs.declared.token.Token.{Token}

-- the bytes of a token's span, in lower case
abbrev pub folded : List ℕ → Token → List ℕ
folded text token = str_to_ascii_lowercase (slice_range text token.from token.to)
