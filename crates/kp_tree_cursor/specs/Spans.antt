-- Where the word of a token lies. The calls of this crate keep it; no other speaks of it.
use Rattle.std.specs.Prelude.{ℕ, ◌≤◌, List, length, slice_range, IsUtf8}
use Rattle.kp_lex.specs.declared.token.Token.{Token}

-- the token's word lies within the bytes, and is text
pub record IsWordIn (lower : List ℕ) (t : Token) : Type 0 where
  pub ordered : t.from ≤ t.to
  pub within : t.to ≤ length lower
  pub utf8 : IsUtf8 (slice_range lower t.from t.to)
