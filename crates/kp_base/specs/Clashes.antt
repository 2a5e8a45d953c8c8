-- Actions with an add and a delete of one atom that may fire together.
use Rattle.std.specs.Prelude.{◌≡◌, ◌≢◌, ℕ, Bool, true, false, not, ◌&&◌, ◌||◌, List, [], ◌∷◌, ◌++◌, Some, slice_get}
use Rattle.std.specs.declared.cmp.Ordering.TheVariants.{Greater}
use Rattle.std.specs.Ordering.{nat_cmp}
use Rattle.std.specs.Cmp.Lexicographic.{slice_cmp}
use Rattle.std.specs.List.{list_all}
use Rattle.kp_base.specs.declared.lit.Lit.{Lit}
use Rattle.kp_base.specs.declared.ground.Effect.{Effect}
use Rattle.kp_base.specs.declared.refused.ClashAt.{ClashAt}
use Rattle.kp_base.specs.declared.ground.Action.{Action}
use Rattle.kp_base.specs.declared.ground.Ground.{Ground}
use Rattle.kp_base.specs.declared.ground.Initial.{Initial}
use Rattle.kp_base.specs.Lists.{Member}
use Rattle.kp_base.specs.Lit.{positive, negative, negated, same_lit}
use Rattle.kp_base.specs.Steps.{State, holds, fires, is_model, runs, state_after}

-- which atoms are never true together
abbrev pub Pairs : Type 0
Pairs = ℕ → ℕ → Bool

-- the two literals are never true together: one is the negation of the other, or they are two atoms of a pair
abbrev pub are_exclusive : Pairs → Lit → Lit → Bool
are_exclusive pairs k l = same_lit (negated k) l || (k.positive && l.positive && pairs k.atom.0 l.atom.0)

-- no two of the literals are
abbrev pub are_compatible : Pairs → List Lit → Bool
are_compatible pairs ls = list_all (λ k. list_all (λ l. not (are_exclusive pairs k l)) ls) ls

-- the conditions of the two effects are compatible, where the precondition holds too
abbrev pub compatible_effects : Pairs → Action → Effect → Effect → Bool
compatible_effects pairs a e f = are_compatible pairs (a.pre ++ (e.cond ++ f.cond))

-- the action has an add and a delete of this atom at these places, whose conditions are compatible
pub record Clashes (pairs : Pairs) (a : Action) (atom add delete : ℕ) : Type 0 where
  pub adding : Effect
  pub deleting : Effect
  pub add_at : slice_get a.effects add ≡ Some adding
  pub delete_at : slice_get a.effects delete ≡ Some deleting
  pub adds : adding.result ≡ positive atom
  pub deletes : deleting.result ≡ negative atom
  pub compatible : compatible_effects pairs a adding deleting ≡ true

-- an action of the ground problem clashes so
pub record IsClash (pairs : Pairs) (g : Ground) (c : ClashAt) : Type 0 where
  pub action : Action
  pub action_at : slice_get g.actions c.action ≡ Some action
  pub clashes : Clashes pairs action c.atom.0 c.add c.delete

-- no action clashes
abbrev pub HasNoClash : Pairs → Ground → Type 0
HasNoClash pairs g = (n atom add delete : ℕ) (a : Action) → slice_get g.actions n ≡ Some a → Clashes pairs a atom add delete → ⊥

-- where a clash stands: by action, then by atom, then by add, then by delete
abbrev pub clash_place : ClashAt → List ℕ
clash_place c = c.action ∷ c.atom.0 ∷ c.add ∷ c.delete ∷ []

-- the clash that stands first
pub record IsFirstClash (pairs : Pairs) (g : Ground) (c : ClashAt) : Type 0 where
  pub clash : IsClash pairs g c
  pub first : (d : ClashAt) → IsClash pairs g d → slice_cmp nat_cmp (clash_place c) (clash_place d) ≢ Greater

-- ---- in states; for laws alone

-- the action adds and deletes the atom in this state
abbrev pub clashes_at : Action → State → ℕ → Bool
clashes_at a s p = fires a.effects (holds s) (positive p) && fires a.effects (holds s) (negative p)

-- after no run from a model does an applicable action add and delete one atom together
pub record NeverClashes (g : Ground) (i : Initial) : Type 0 where
  pub no_clash : (s : State) (ns : List ℕ) (a : Action) (p : ℕ) → is_model i s ≡ true → runs g s ns ≡ true → Member g.actions a → list_all (holds (state_after g s ns)) a.pre ≡ true → clashes_at a (state_after g s ns) p ≡ false
