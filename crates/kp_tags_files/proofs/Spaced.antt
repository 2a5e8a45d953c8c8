-- Bytes that were written behind a space.
use Rattle.std.proofs.Common.{◌≡◌, ℕ, List, [], ◌∷◌, ◌++◌, ◌∙◌}
use Rattle.kp_law_texts.specs.Pieces.{spelling, Put, Puts, ◌⨾◌, space}
use Rattle.kp_law_texts.proofs.Public.{wrote_in_front}

pub spaced_puts : (a b c : List ℕ) (f : Put) → b ≡ a ++ 32 ∷ [] → Puts b c f → Puts a c (space ⨾ f)
spaced_puts a b c f e p = record { puts = λ rest. p.puts rest ∙ wrote_in_front a b (32 ∷ []) (spelling (f rest)) e }
