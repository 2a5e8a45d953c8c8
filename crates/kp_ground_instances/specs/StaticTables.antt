-- What the tables of static predicates and stated atoms tell, and how kept instances are gathered. This file serves proofs alone.
use Rattle.std.specs.Prelude.{◌≡◌, ◌+◌, ◌<◌, ◌≤◌, ◌==◌, ℕ, Bool, true, false, not, ◌&&◌, ◌||◌, if◌then◌else◌, List, [], ◌∷◌, ◌++◌, length, map}
use Rattle.std.specs.List.{list_any}
use Rattle.kp_names_semantics.specs.Names.{same}
use Rattle.kp_names_semantics.specs.Numbered.{Lifted}
use Rattle.kp_ground_semantics.specs.Static.{is_static, initially}
use Rattle.kp_ground_semantics.specs.Ground.{kept_instances}
use Rattle.kp_ground_semantics.specs.Weights.{total_weight}
use Rattle.kp_ground_instances.specs.Counts.{kept_view, capped}
use Rattle.kp_ground_instances.specs.declared.keeping.Keeping.{Keeping}

-- ---- numbers

-- the number is one of these
abbrev pub has_number : List ℕ → ℕ → Bool
has_number ns q = list_any (λ n. q == n) ns

-- the numbers that pass the test have come
pub record AddsNumbers (old new : List ℕ) (test : ℕ → Bool) : Type 0 where
  pub each : (q : ℕ) → has_number new q ≡ (has_number old q || test q)

-- ---- atoms

-- the atom is one of these
abbrev pub has_atom : List (ℕ × List ℕ) → ℕ → List ℕ → Bool
has_atom atoms q os = list_any (λ a. q == a.0 && same os a.1) atoms

-- the atoms with one more, where it is new
abbrev pub with_atom : List (ℕ × List ℕ) → ℕ × List ℕ → List (ℕ × List ℕ)
with_atom atoms a = if has_atom atoms a.0 a.1 then atoms else atoms ++ a ∷ []

-- the atoms that pass the test have come
pub record AddsAtoms (old new : List (ℕ × List ℕ)) (test : ℕ → List ℕ → Bool) : Type 0 where
  pub each : (q : ℕ) (os : List ℕ) → has_atom new q os ≡ (has_atom old q os || test q os)

-- ---- both tables

-- these predicates are those that aren't static, and these atoms those that `:init` states
pub record AreTablesOf (l : Lifted) (preds : List ℕ) (atoms : List (ℕ × List ℕ)) : Type 0 where
  pub changed : (q : ℕ) → has_number preds q ≡ not (is_static l q)
  pub stated : (q : ℕ) (os : List ℕ) → has_atom atoms q os ≡ initially l q os

-- ---- kept instances

-- some more have come, unless that makes more than so many
abbrev pub Gathers : {X : Type 0} → ℕ → List X → List X → List X → Bool → Type 0
Gathers most old more new true = (new ≡ old ++ more) × (length new ≤ most)
Gathers most old more new false = most < length old + length more

-- the kept instances, at most so many, with their weight
pub record IsKeeping (l : Lifted) (most : ℕ) (k : Keeping) : Type 0 where
  pub all : map kept_view k.kept ≡ kept_instances l
  pub few : length (kept_instances l) ≤ most
  pub weight : k.weight ≡ capped (total_weight l)
