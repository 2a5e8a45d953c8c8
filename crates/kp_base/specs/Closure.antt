-- What is known under a tag: the literals that hold in each model that meets it.
use Rattle.std.specs.Prelude.{◌≡◌, ℕ, Bool, true, false, ◌&&◌, List, [], ◌∷◌, map, filter, replicate, slice_index_or}
use Rattle.std.specs.List.{list_all, flat_map, range_with_len}
use Rattle.kp_base.specs.declared.lit.Lit.{Lit}
use Rattle.kp_base.specs.declared.ground.Initial.{Initial}
use Rattle.kp_base.specs.Lists.{choices}
use Rattle.kp_base.specs.Lit.{positive, negative}
use Rattle.kp_base.specs.LitSet.{IsAscending}
use Rattle.kp_base.specs.Steps.{State, holds, is_model}
use Rattle.kp_base.specs.Entailed.{IsClosure}
use Rattle.kp_base.specs.Implicates.{are_below, IsOfAtoms}

-- the two literals of each of the first n atoms, ascending
abbrev pub literals : ℕ → List Lit
literals n = flat_map (λ p. positive p ∷ negative p ∷ []) (range_with_len 0 n)

-- the state in which the atoms are as this list says, and all others false
abbrev pub state_of : List Bool → State
state_of bs p = slice_index_or bs p false

-- all the ways to make the first n atoms true or false
abbrev pub states : ℕ → List State
states n = map state_of (choices (replicate n (true ∷ false ∷ [])))

-- those that are models and meet the tag
abbrev pub models_of : Initial → ℕ → List Lit → List State
models_of i n tag = filter (λ s. is_model i s && list_all (holds s) tag) (states n)

-- the literals of the first n atoms that hold in all of these
abbrev pub closure : Initial → ℕ → List Lit → List Lit
closure i n tag = filter (λ l. list_all (λ s. holds s l) (models_of i n tag)) (literals n)

-- ---- the law

-- the list is the closure of the tag, in ascending order
pub record IsAscendingClosure (n : ℕ) (i : Initial) (tag ls : List Lit) : Type 0 where
  pub closure : IsClosure n i tag ls
  pub ascending : IsAscending ls

-- where the formula and the tag speak of the first n atoms alone, the closure over their states is the closure over all states
abbrev pub IsClosureExact : Type 0
IsClosureExact = (i : Initial) (n : ℕ) → IsOfAtoms n i → (tag : List Lit) → are_below n tag ≡ true → IsAscendingClosure n i tag (closure i n tag)
