-- Walks over one ascending clause, or two at once. This file serves proofs alone.
use Rattle.std.specs.Prelude.{ℕ, ◌-◌, Bool, true, false, ◌||◌, ◌==◌, if◌then◌else◌, List, [], ◌∷◌, nat_lt, nat_eq}
use Rattle.kp_base.specs.declared.lit.Lit.{Lit}
use Rattle.kp_base.specs.Lit.{code_of}

-- each literal of the first is in the second, where n literals of the second may be passed over
abbrev pub walked : ℕ → List Lit → List Lit → Bool
walked n [] d = true
walked n (x ∷ c) [] = false
walked n (x ∷ c) (y ∷ d) = if code_of x == code_of y then walked n c d else if nat_lt (code_of x) (code_of y) || nat_eq n 0 then false else walked (n - 1) (x ∷ c) d

-- two literals, one behind the other, are of one atom, where x stands before the first
abbrev pub has_pair : Lit → List Lit → Bool
has_pair x [] = false
has_pair x (y ∷ c) = nat_eq x.atom.0 y.atom.0 || has_pair y c
