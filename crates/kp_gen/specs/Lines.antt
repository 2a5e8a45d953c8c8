-- Texts, line by line.
use Rattle.std.specs.Prelude.{ℕ, List, ◌++◌, codes}
use Rattle.std.specs.List.{flat_map}

-- the text of these lines, each ended by a line feed
abbrev pub text : List (List ℕ) → List ℕ
text lines = flat_map (λ line. line ++ codes "\n") lines
