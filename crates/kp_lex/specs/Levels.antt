-- Where an opening bracket opens one level too many, and the beginning of a text that ends with it.
use Rattle.std.specs.Prelude.{◌≡◌, ◌≤◌, ℕ, zero, suc, List, [], ◌∷◌, length, take, Option, Some, None}
use Rattle.kp_lex.specs.declared.token.TokenKind.{TokenKind}
use Rattle.kp_lex.specs.declared.token.TokenKind.TheVariants as kinds
use Rattle.kp_lex.specs.declared.token.Token.{Token}
use Rattle.kp_lex.specs.declared.cutting.Beginning.{Beginning}
use Rattle.kp_lex.specs.Cutting.{Cut}

-- one level less, where there is one
abbrev pub one_less : ℕ → Option ℕ
one_less zero = None
one_less (suc d) = Some d

-- how many levels may still be opened behind a token of that kind, where d may be before it; none where it opens one too many
abbrev pub behind : ℕ → TokenKind → Option ℕ
behind d kinds.Left = one_less d
behind d kinds.Right = Some (suc d)
behind d _ = Some d

-- what comes of the levels that are left, or of there being none
abbrev pub levels_left : {A : Type 0} → Option ℕ → A → (ℕ → A) → A
levels_left None over go = over
levels_left (Some d) over go = go d

-- The tokens up to and with the first opening bracket that opens a level more than the d that may still be opened; all of them where none does.
abbrev pub up_to : ℕ → List Token → List Token
up_to d [] = []
up_to d (t ∷ ts) = t ∷ levels_left (behind d t.kind) [] (λ n. up_to n ts)

-- The byte behind that bracket; the text's end where there is none.
abbrev pub reach : ℕ → List Token → ℕ → ℕ
reach d [] end = end
reach d (t ∷ ts) end = levels_left (behind d t.kind) t.to (λ n. reach n ts end)

-- The text is cut. Of its tokens those up to and with the first bracket that is too deep are kept, and they are the cutting of the bytes up to its end.
pub record BeginsCutting (levels : ℕ) (text : List ℕ) (b : Beginning) : Type 0 where
  pub whole : List Token
  pub cut : Cut 0 text whole
  pub kept : b.tokens ≡ up_to levels whole
  pub end : b.to ≡ reach levels whole (length text)
  pub within : b.to ≤ length text
  pub begun : Cut 0 (take b.to text) b.tokens
