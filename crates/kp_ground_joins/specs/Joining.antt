-- How partial bindings are gathered and counted. This file serves proofs alone.
use Rattle.std.specs.Prelude.{◌≡◌, ◌≤◌, ◌<◌, ◌+◌, ◌∷◌, [], ◌++◌, ℕ, Bool, true, false, List, flat_map, length, map}
use Rattle.kp_base.specs.Lists.{only_if}
use Rattle.kp_names_semantics.specs.Numbered.{Cond, Schema, Lifted}
use Rattle.kp_names_semantics.specs.Lifted.{Binding, Instance}
use Rattle.kp_ground_semantics.specs.Static.{settled}
use Rattle.kp_ground_semantics.specs.Ground.{instance, kept_instances}
use Rattle.kp_ground_semantics.specs.Weights.{total_weight}
use Rattle.kp_ground_semantics.specs.Partial.{unrefuted, partial_bindings, schema_partials, partial_count}
use Rattle.kp_ground_instances.specs.Counts.{kept_view, capped}
use Rattle.kp_ground_instances.specs.declared.keeping.Keeping.{Keeping}

-- a binding, where it isn't refuted
abbrev pub unless_refuted : Lifted → Cond → Binding → List Binding
unless_refuted l pre b = only_if (unrefuted l b pre) (b ∷ [])

-- a binding with an object more, where it isn't refuted
abbrev pub tried : Lifted → Cond → Binding → ℕ → List Binding
tried l pre b o = unless_refuted l pre (b ++ o ∷ [])

-- bindings with each object at their ends, where these aren't refuted
abbrev pub all_tried : Lifted → Cond → List ℕ → List Binding → List Binding
all_tried l pre os bs = flat_map (λ b. flat_map (tried l pre b) os) bs

-- the instance with these objects, where the precondition is settled
abbrev pub if_settled : Lifted → Cond → ℕ → Binding → List Instance
if_settled l pre n os = only_if (settled l os pre) (instance n os ∷ [])

-- these are they, and no more than so many
pub record AreAll (most : ℕ) (all rows : List Binding) : Type 0 where
  pub same : rows ≡ all
  pub few : length all ≤ most

-- so many more were counted, unless that makes more than so many
abbrev pub Counts : ℕ → ℕ → ℕ → ℕ → Bool → Type 0
Counts most old more new true = (new ≡ old + more) × (new ≤ most)
Counts most old more new false = most < old + more

-- the partial bindings of all parameters, where those of all lengths were counted
pub record IsJoined (l : Lifted) (a : Schema) (most old new : ℕ) (rows : List Binding) : Type 0 where
  pub all : rows ≡ partial_bindings l a (length a.params)
  pub counted : Counts most old (schema_partials l a) new true

-- all kept instances with their weight, and no more partial bindings than so many
pub record IsKeptByJoins (l : Lifted) (most : ℕ) (k : Keeping) : Type 0 where
  pub few : partial_count l ≤ most
  pub all : map kept_view k.kept ≡ kept_instances l
  pub weight : k.weight ≡ capped (total_weight l)
