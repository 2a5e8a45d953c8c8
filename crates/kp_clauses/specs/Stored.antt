-- Lists of clauses, none of which is within another.
use Rattle.std.specs.Prelude.{◌≡◌, Bool, true, not, ◌||◌, ◌&&◌, if◌then◌else◌, List, [], ◌∷◌, ◌++◌, filter}
use Rattle.std.specs.List.{list_any, list_all}
use Rattle.kp_base.specs.declared.lit.Lit.{Lit}
use Rattle.kp_base.specs.Steps.{has}
use Rattle.kp_base.specs.Implicates.{is_within}
use Rattle.kp_clauses.specs.Resolved.{without}

-- some clause is within this one
abbrev pub subsumed : List (List Lit) → List Lit → Bool
subsumed cs c = list_any (λ d. is_within d c) cs

-- the clauses that don't hold the new one, and then the new one
abbrev pub replaced : List (List Lit) → List Lit → List (List Lit)
replaced cs c = filter (λ d. not (is_within c d)) cs ++ c ∷ []

-- the clauses with a new one; unchanged where one of them is within it
abbrev pub with_clause : List (List Lit) → List Lit → List (List Lit)
with_clause cs c = if subsumed cs c then cs else replaced cs c

-- the clauses with the clauses of a second list in turn
abbrev pub with_all : List (List Lit) → List (List Lit) → List (List Lit)
with_all cs [] = cs
with_all cs (d ∷ ds) = with_all (with_clause cs d) ds

-- a set has just the literals of a clause without any one of which none of these clauses is within it
abbrev pub AreNeeded : List (List Lit) → List Lit → List Lit → Type 0
AreNeeded cs c set = (x : Lit) → has set x ≡ (has c x && not (subsumed cs (without x c)))

-- no clause is within another one
abbrev pub are_apart : List (List Lit) → Bool
are_apart [] = true
are_apart (c ∷ cs) = list_all (λ d. not (is_within c d || is_within d c)) cs && are_apart cs
