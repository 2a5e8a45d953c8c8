-- This file serves proofs alone. How names under types are kept: each name leads to the one before it under the same type.
use Rattle.std.specs.Prelude.{◌≡◌, ◌<◌, ◌≤◌, ℕ, suc, List, [], ◌∷◌, map, reverse, length, get_or, unwrap_or}
use Rattle.std.specs.Map.{lookup}
use Rattle.kp_names_semantics.specs.Names.{Name, same}
use Rattle.kp_names_declared.specs.Steps.{under}
use Rattle.kp_names_declared.specs.declared.under.Link.{Link}

-- pairs of type and name, the last first
abbrev pub pairs_of : List Link → List (Name × Name)
pairs_of links = reverse (map (λ l. (l.kind.now, l.name.now)) links)

-- these names are met from a place on, which stands behind the first
pub data IsChain (links : List Link) (k : Name) : ℕ → List Name → Type 0 where
  ends : IsChain links k 0 []
  leads : (i : ℕ) (l : Link) (ns : List Name) → i < length links → l ≡ get_or links i l → l.before ≤ i → IsChain links k l.before ns → IsChain links k (suc i) (l.name.now ∷ ns)

-- the names under each type are met from its place on
pub record AreChained (links : List Link) (places : List (Name × ℕ)) : Type 0 where
  pub within : (k : Name) → unwrap_or (lookup (same k) places) 0 ≤ length links
  pub each : (k : Name) → IsChain links k (unwrap_or (lookup (same k) places) 0) (under (pairs_of links) k)
