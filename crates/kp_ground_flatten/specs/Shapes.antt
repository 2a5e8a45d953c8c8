-- Serves proofs alone: what stands for an effect in a hash table, so that repeats are found there.
use Rattle.std.specs.Prelude.{◌≡◌, if◌then◌else◌, List, [], ◌∷◌, ◌++◌, map, fold}
use Rattle.std.specs.declared.cmp.Ordering.{Ordering}
use Rattle.std.specs.Ordering.{bool_cmp, nat_cmp, on, then_cmp}
use Rattle.std.specs.Cmp.Lexicographic.{slice_cmp}
use Rattle.std.specs.List.{list_any}
use Rattle.std.specs.List.Sorted.{IsStrictlySortedBy}
use Rattle.kp_names_semantics.specs.declared.lifted.GroundLit.{GroundLit}
use Rattle.kp_names_semantics.specs.Lifted.{ground, names_literal}
use Rattle.kp_ground_semantics.specs.declared.flat.FlatEffect.{FlatEffect}
use Rattle.kp_ground_semantics.specs.Flattening.{same_flat}
use Rattle.kp_ground_flatten.specs.declared.shape.KeyLit.{KeyLit}
use Rattle.kp_ground_flatten.specs.declared.shape.Shape.{Shape}

-- a literal of a shape, as a literal of a problem by number
abbrev pub key_view : KeyLit → GroundLit
key_view k = ground k.positive k.pred k.objects.items

-- which literal comes first: by sign, predicate and objects
abbrev pub lit_cmp : GroundLit → GroundLit → Ordering
lit_cmp = then_cmp (on (λ m. m.positive) bool_cmp) (then_cmp (on (λ m. m.pred) nat_cmp) (on (λ m. m.objects) (slice_cmp nat_cmp)))

-- the literals of ms, ascending and each once
pub record IsSetOf (set ms : List GroundLit) : Type 0 where
  pub ascending : IsStrictlySortedBy lit_cmp set
  pub members : (m : GroundLit) → names_literal set m ≡ names_literal ms m

-- the effect's result, and the set of its conditions
pub record IsShapeOf (s : Shape) (f : FlatEffect) : Type 0 where
  pub result : key_view s.result ≡ f.result
  pub conds : IsSetOf (map key_view s.conds.items) f.cond

-- the effects' shapes, one by one
abbrev pub AreShapes : List Shape → List FlatEffect → Type 0
AreShapes [] [] = Unit {0}
AreShapes [] (f ∷ fs) = ⊥
AreShapes (s ∷ ss) [] = ⊥
AreShapes (s ∷ ss) (f ∷ fs) = IsShapeOf s f × AreShapes ss fs

-- the effects with one more at the end, if it isn't there yet
abbrev pub with_effect : List FlatEffect → FlatEffect → List FlatEffect
with_effect fs f = if list_any (same_flat f) fs then fs else fs ++ f ∷ []

-- the same for one after another
abbrev pub with_effects : List FlatEffect → List FlatEffect → List FlatEffect
with_effects fs gs = fold with_effect fs gs
