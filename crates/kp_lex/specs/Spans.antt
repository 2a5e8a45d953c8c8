-- Where tokens lie in their text.
use Rattle.std.specs.Prelude.{ℕ, ◌≤◌, ◌<◌, List, [], ◌∷◌, length, slice_range}
use Rattle.kp_lex.specs.declared.token.Token.{Token}
use Rattle.kp_lex.specs.Cutting.{IsToken}
use Rattle.kp_lex.specs.Words.{folded}

-- the spans are not empty and lie one behind the other, from one byte to another
abbrev pub InOrder : ℕ → List Token → ℕ → Type 0
InOrder from [] to = from ≤ to
InOrder from (t ∷ ts) to = (from ≤ t.from) × (t.from < t.to) × InOrder t.to ts to

-- the span lies in the text, and its bytes are a token of that kind, as they stand and in lower case
pub record IsTokenOf (text : List ℕ) (t : Token) : Type 0 where
  pub not_empty : t.from < t.to
  pub within : t.to ≤ length text
  pub spelled : IsToken t.kind (slice_range text t.from t.to)
  pub lowered : IsToken t.kind (folded text t)
