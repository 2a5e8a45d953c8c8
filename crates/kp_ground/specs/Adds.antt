-- The adds of an action by atom, and what covers a delete. This file serves proofs alone.
use Rattle.std.specs.Prelude.{ℕ, Bool, List, [], ◌++◌, Option, Some, None, map, filter, nat_eq}
use Rattle.std.specs.List.{list_any}
use denote.Ref.{Bor}
use Rattle.indexmap.specs.IndexMap.{get}
use Rattle.kp_base.specs.declared.lit.Lit.{Lit}
use Rattle.kp_base.specs.declared.ground.Effect.{Effect}
use Rattle.kp_base.specs.Lit.{positive, same_lit}
use Rattle.kp_base.specs.Implicates.{is_within}
use Rattle.kp_ground.specs.declared.adds.Adds.{Adds}

-- the effects that add the atom of this number
abbrev pub adds_of : List Effect → ℕ → List Effect
adds_of es n = filter (λ e. same_lit (positive n) e.result) es

-- what some references point to
abbrev pub pointed : Option (List (Bor Effect)) → List Effect
pointed None = []
pointed (Some es) = map (λ e. e.now) es

-- what a table has of the adds of the atom of this number
abbrev pub adds_at : Adds → ℕ → List Effect
adds_at a n = pointed (get nat_eq a.by_atom n)

-- one of these adds asks for nothing beyond the effect's condition and the precondition
abbrev pub covered : List Lit → Effect → List Effect → Bool
covered pre d es = list_any (λ e. is_within e.cond (d.cond ++ pre)) es
