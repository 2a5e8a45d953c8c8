-- Whether all tags of a set of clauses cover: going on literal by literal. Beside proofs it serves the contracts that cite `tells_cover`.
use Rattle.std.specs.Prelude.{ℕ, Bool, not, ◌||◌, List, [], ◌∷◌}
use Rattle.std.specs.List.{list_any, list_all}
use Rattle.kp_base.specs.declared.lit.Lit.{Lit}
use Rattle.kp_base.specs.LitSet.{with_lit}
use Rattle.kp_primes.specs.Asked.{entailed_by}
use Rattle.kp_primes.specs.Held.{Held}
use Rattle.kp_cover.specs.Covering.{pick}
use Rattle.kp_cover.specs.Grown.{is_fine}

-- the tag entails a literal of each clause
abbrev pub meets : List (List Lit) → List (List Lit) → List Lit → Bool
meets ps cs tag = list_all (list_any (entailed_by ps tag)) cs

-- each consistent way to go on with one literal of each clause of the set does
abbrev pub all_meet : List (List Lit) → List (List Lit) → List Lit → List (List Lit) → Bool
all_meet ps cs tag [] = meets ps cs tag
all_meet ps cs tag (c ∷ set) = list_all (λ l. not (is_fine ps (with_lit l tag)) || all_meet ps cs (with_lit l tag) set) c

-- what `is_cover` answers
abbrev pub tells_cover : Held → List (List Lit) → List ℕ → Bool
tells_cover h cs places = all_meet h.clauses cs [] (pick cs places)
