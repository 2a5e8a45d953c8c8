-- What is proved of partial bindings.
use Rattle.std.specs.Prelude.{◌≡◌, ℕ, suc, List, [], ◌∷◌, ◌++◌, Some, filter, flat_map, length, map, slice_get}
use Rattle.kp_names_semantics.specs.declared.lifted.Range.{Range}
use Rattle.kp_names_semantics.specs.Numbered.{Schema, Lifted}
use Rattle.kp_names_semantics.specs.Lifted.{Binding}
use Rattle.kp_ground_semantics.specs.Static.{settled}
use Rattle.kp_ground_semantics.specs.Ground.{kept_bindings}
use Rattle.kp_ground_semantics.specs.Partial.{unrefuted, partial_bindings}

-- a binding with each object of a range at its end
abbrev pub longer : List ℕ → Binding → List Binding
longer os b = map (λ o. b ++ o ∷ []) os

-- bindings with one object more each, of which those stay that aren't refuted
abbrev pub extended : Lifted → Schema → List ℕ → List Binding → List Binding
extended l a os bs = filter (λ b. unrefuted l b a.pre) (flat_map (longer os) bs)

-- the partial bindings of one parameter more are those of the parameters before, extended by its objects
abbrev pub PartialBindingsGoOn : Type 0
PartialBindingsGoOn = (l : Lifted) (a : Schema) (i : ℕ) (r : Range) → slice_get a.params i ≡ Some r → partial_bindings l a (suc i) ≡ extended l a r.objects (partial_bindings l a i)

-- the kept bindings are the partial bindings of all parameters whose precondition is settled
abbrev pub KeptBindingsAreJoined : Type 0
KeptBindingsAreJoined = (l : Lifted) (a : Schema) → kept_bindings l a ≡ filter (λ b. settled l b a.pre) (partial_bindings l a (length a.params))
