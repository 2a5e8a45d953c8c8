-- Binding changes no meaning.
use Rattle.std.specs.Prelude.{◌≡◌, ℕ, List, []}
use Rattle.kp_names_semantics.specs.Numbered.{Cond, Eff, Schema, Lifted}
use Rattle.kp_names_semantics.specs.Lifted.{State, Binding, holds, fires}
use Rattle.kp_ground_semantics.specs.Static.{settled, remaining}
use Rattle.kp_ground_semantics.specs.Flattening.{flat, flat_of}
use Rattle.kp_ground_flatten.specs.Bound.{bound_cond, bound_eff, bound, flat_tree}

-- a bound condition holds where the condition holds under the binding
abbrev pub IsHoldsBound : Type 0
IsHoldsBound = (s : State) (b : Binding) (c : Cond) → holds s [] (bound_cond b c) ≡ holds s b c

-- a bound effect fires what the effect fires under the binding
abbrev pub IsFiresBound : Type 0
IsFiresBound = (s : State) (b : Binding) (e : Eff) → fires s [] (bound_eff b e) ≡ fires s b e

-- a bound condition has the same truth of static literals and equalities, and the same other literals
pub record IsSplitAlike (l : Lifted) (b : Binding) (c : Cond) : Type 0 where
  pub settled_alike : settled l [] (bound_cond b c) ≡ settled l b c
  pub remaining_alike : remaining l [] (bound_cond b c) ≡ remaining l b c

abbrev pub IsSplitBound : Type 0
IsSplitBound = (l : Lifted) (b : Binding) (c : Cond) → IsSplitAlike l b c

-- a bound effect has the same flat effects
abbrev pub IsFlatBound : Type 0
IsFlatBound = (l : Lifted) (b : Binding) (e : Eff) → flat l [] (bound_eff b e) ≡ flat l b e

-- the flat form of an instance's tree is that of the instance
abbrev pub IsFlatOfTree : Type 0
IsFlatOfTree = (l : Lifted) (a : Schema) (os : List ℕ) → flat_tree l (bound os a) ≡ flat_of l a os
