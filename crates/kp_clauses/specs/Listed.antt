-- Lists by number.
use Rattle.std.specs.Prelude.{ℕ, List, [], get_or}

-- the list with this number; empty where there is none
abbrev pub row : {X : Type 0} → List (List X) → ℕ → List X
row lists k = get_or lists k []
