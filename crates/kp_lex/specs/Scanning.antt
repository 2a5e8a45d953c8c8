-- For proofs alone: the text cut piece by piece from left to right.
use Rattle.std.specs.Prelude.{◌≡◌, ◌+◌, ◌≤◌, ℕ, zero, suc, List, [], ◌∷◌, ◌++◌, length, drop, Option, Some, None, Result, Ok, Err}
use Rattle.kp_lex.specs.declared.token.Token.{Token}
use Rattle.kp_base.specs.declared.refused.Part.{Part}
use Rattle.kp_base.specs.declared.refused.Stop.{Stop}
use Rattle.kp_base.specs.declared.refused.Stop.TheVariants as stops
use Rattle.kp_base.specs.declared.refused.Refused.TheVariants as refusals
use Rattle.kp_lex.specs.declared.piece.Piece.{Piece}
use Rattle.kp_lex.specs.declared.piece.Piece.TheVariants as pieces
use Rattle.kp_lex.specs.declared.cutting.Beginning.{Beginning}
use Rattle.kp_lex.specs.Pieces.{piece_of}
use Rattle.kp_lex.specs.Levels.{behind, levels_left, up_to, reach}
use Rattle.kp_lex.specs.Cutting.{spanned}
use Rattle.kp_lex.specs.Places.{place_of}

-- these tokens and then those of the rest, unless the rest has a bad byte
abbrev pub with : List Token → Result (List Token) ℕ → Result (List Token) ℕ
with front (Ok ts) = Ok (front ++ ts)
with front (Err i) = Err i

-- the outcome, once the first piece and what follows it are known
abbrev pub after : Piece → ℕ → List ℕ → (ℕ → List ℕ → Result (List Token) ℕ) → Result (List Token) ℕ
after (pieces.Skip n) at bs go = go (at + n) (drop n bs)
after (pieces.Token k n) at bs go = with (spanned k at n ∷ []) (go (at + n) (drop n bs))
after pieces.Bad at bs go = Err at

-- the tokens, or the bad byte, where there are no more pieces than the first number
unfoldable pub cut_from : ℕ → ℕ → List ℕ → Result (List Token) ℕ
cut_from zero at bs = Ok []
cut_from (suc n) at [] = Ok []
cut_from (suc n) at (b ∷ bs) = after (piece_of (b ∷ bs)) at (b ∷ bs) (cut_from n)

-- the tokens, or the bad byte
abbrev pub cut : ℕ → List ℕ → Result (List Token) ℕ
cut at bs = cut_from (length bs) at bs

-- what is answered instead of tokens: a refusal at the place of the bad byte, or want of memory
abbrev pub Fails : Part → List ℕ → Stop → Result (List Token) ℕ → Type 0
Fails part text stops.Memory r = Unit {0}
Fails part text (stops.Refused (refusals.BadToken place)) r = (i : ℕ) × ((r ≡ Err i) × (place ≡ place_of part text i))
Fails part text (stops.Refused _) r = ⊥

-- how many levels may still be opened behind the tokens; none where one of them opened one too many
abbrev pub behind_all : ℕ → List Token → Option ℕ
behind_all d [] = Some d
behind_all d (t ∷ ts) = levels_left (behind d t.kind) None (λ n. behind_all n ts)

-- of the tokens of the text those up to a bracket that is too deep are kept
pub record Begins (levels : ℕ) (text : List ℕ) (b : Beginning) : Type 0 where
  pub whole : List Token
  pub all : cut 0 text ≡ Ok whole
  pub kept : b.tokens ≡ up_to levels whole
  pub end : b.to ≡ reach levels whole (length text)
  pub within : b.to ≤ length text
