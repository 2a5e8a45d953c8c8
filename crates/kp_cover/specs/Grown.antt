-- Tags that grow clause by clause. Beside proofs it serves the contracts that cite `added`.
use Rattle.std.specs.Prelude.{Bool, List, [], ◌∷◌, ◌++◌, not, filter, map, if◌then◌else◌, Option, Some, None}
use Rattle.std.specs.List.{flat_map, list_any}
use Rattle.kp_base.specs.declared.lit.Lit.{Lit}
use Rattle.kp_base.specs.LitSet.{with_lit, same_set}
use Rattle.kp_primes.specs.Asked.{inconsistent}

-- the tag isn't found to be inconsistent
abbrev pub is_fine : List (List Lit) → List Lit → Bool
is_fine ps tag = not (inconsistent ps tag)

-- a tag with each literal of a clause that goes with it
abbrev pub with_each : List (List Lit) → List Lit → List Lit → List (List Lit)
with_each ps clause tag = filter (is_fine ps) (map (λ l. with_lit l tag) clause)

-- the tags with the literals of one clause more
abbrev pub grown : List (List Lit) → List (List Lit) → List Lit → List (List Lit)
grown ps tags clause = flat_map (with_each ps clause) tags

-- and with the literals of clauses
abbrev pub all_grown : List (List Lit) → List (List Lit) → List (List Lit) → List (List Lit)
all_grown ps tags [] = tags
all_grown ps tags (c ∷ cs) = all_grown ps (grown ps tags c) cs

-- the tags with one more, unless it is there
abbrev pub added : List (List Lit) → List Lit → List (List Lit)
added tags t = if list_any (same_set t) tags then tags else tags ++ t ∷ []

-- the tag, if it isn't found to be inconsistent
abbrev pub if_fine : List (List Lit) → List Lit → Option (List Lit)
if_fine ps tag = if is_fine ps tag then Some tag else None
