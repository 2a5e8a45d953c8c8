-- Where a bracket opens one level too many.
use Rattle.std.specs.Prelude.{ℕ, zero, suc, List, [], ◌∷◌, Bool, true, false, Option, Some, None}
use Rattle.kp_tree_grammar.specs.Symbols.{Tok, is_left, is_right}

-- so many brackets may be open at once
abbrev pub levels : ℕ
levels = 64

-- What follows from a bracket that opens or closes, or from another token, where d levels may still be opened: it is the one too many, or the rest goes on with so many levels.
abbrev pub deep_case : {W : Type 0} → ℕ → Bool → Bool → List (Tok W) → (ℕ → Option (List (Tok W))) → Option (List (Tok W))
deep_case zero true r here k = Some here
deep_case (suc d) true r here k = k d
deep_case d false true here k = k (suc d)
deep_case d false false here k = k d

-- The tokens from the first bracket on that opens a level more than the d that may still be opened.
abbrev pub deep : {W : Type 0} → ℕ → List (Tok W) → Option (List (Tok W))
deep d [] = None
deep d (t ∷ ts) = deep_case d (is_left t.symbol) (is_right t.symbol) (t ∷ ts) (λ n. deep n ts)
