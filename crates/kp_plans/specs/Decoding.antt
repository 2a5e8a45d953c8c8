-- A word that is read from the left, byte by byte. This file serves proofs alone.
use Rattle.std.specs.Prelude.{◌≡◌, ℕ, Bool, true, false, List, [], ◌∷◌, ◌++◌, Option, None, option_map}
use Rattle.kp_names_semantics.specs.Names.{Name}
use Rattle.kp_names_semantics.specs.Encoding.{underscore, with_byte, split}
use Rattle.kp_plans.specs.declared.decoding.Parts.{Parts}

-- the bytes in front of the first component
abbrev pub with_bytes : List ℕ → List Name → List Name
with_bytes [] xs = xs
with_bytes (b ∷ bs) xs = with_byte b (with_bytes bs xs)

-- what is left to read: the underscore that was read last counts
abbrev pub behind : Bool → List ℕ → List ℕ
behind true bs = underscore ∷ bs
behind false bs = bs

-- the components of the whole word, of which this much is read and the rest is left
abbrev pub components : Parts → List ℕ → Option (List Name)
components p rest = option_map (λ xs. p.ended ++ with_bytes p.last xs) (split (behind p.escaped rest))

-- from before to now the byte was read
pub record Decodes (before now : Parts) (b : ℕ) : Type 0 where
  pub reads : (rest : List ℕ) → components now rest ≡ components before (b ∷ rest)

-- no component goes on with the byte
pub record Breaks (before : Parts) (b : ℕ) : Type 0 where
  pub breaks : (rest : List ℕ) → components before (b ∷ rest) ≡ None

-- the byte was read, or no component goes on with it
abbrev pub Takes : Parts → Parts → ℕ → Bool → Type 0
Takes before now b true = Decodes before now b
Takes before now b false = Breaks before b
