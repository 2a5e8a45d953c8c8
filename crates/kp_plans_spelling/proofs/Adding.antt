-- What is put in pieces is added as bytes.
use Rattle.std.proofs.Common.{◌≡◌, ℕ, List, [], ◌++◌, sym, ◌∙◌, append-nil}
use Rattle.kp_law_texts.specs.Pieces.{spelling, Put, Puts}

pub adds : (before now : List ℕ) (f : Put) → Puts before now f → now ≡ before ++ spelling (f [])
adds before now f p = sym (append-nil now) ∙ p.puts []
