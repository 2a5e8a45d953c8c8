-- Sets of clauses whose tags cover others.
use Rattle.std.specs.Prelude.{◌≡◌, ◌↔◌, ℕ, Bool, true, List, [], map, get_or}
use Rattle.kp_base.specs.declared.lit.Lit.{Lit}
use Rattle.kp_base.specs.declared.ground.Initial.{Initial}
use Rattle.kp_base.specs.Covering.{AreTagsOfClauses, AllMeet}

-- the clauses at these places
abbrev pub pick : List (List Lit) → List ℕ → List (List Lit)
pick cs places = map (λ k. get_or cs k []) places

-- these are the tags of the set of clauses, and each meets all clauses
pub record IsCover (i : Initial) (cs set tags : List (List Lit)) : Type 0 where
  pub are : AreTagsOfClauses i set tags
  pub cover : AllMeet i tags cs

-- the test tells at which places clauses stand whose tags meet all
abbrev pub TellsCovers : Initial → List (List Lit) → (List ℕ → Bool) → Type 0
TellsCovers i cs p = (places : List ℕ) → (p places ≡ true) ↔ ((tags : List (List Lit)) × IsCover i cs (pick cs places) tags)
