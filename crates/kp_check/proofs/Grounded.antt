-- Ground problems of the first n atoms, and the values after one of their steps.
use Rattle.std.proofs.Common.{◌≡◌, ℕ, true, List, Option, Some, None, length, slice_get, refl}
use Rattle.std.proofs.lemmas.Bool.{and_parts}
use Rattle.std.specs.List.{list_all}
use Rattle.kp_base.specs.declared.lit.Lit.{Lit}
use Rattle.kp_base.specs.declared.ground.Action.{Action}
use Rattle.kp_base.specs.declared.ground.Ground.{Ground}
use Rattle.kp_base.specs.Steps.{State, next}
use Rattle.kp_base.specs.Implicates.{are_below, effect_below, action_below, IsOfItsAtoms}
use Rattle.kp_base.proofs.Lists.{all_member, member_at}
use Rattle.kp_primes_first_model.specs.declared.truth.Truth.{Truth}
use Rattle.kp_check.specs.Values.{next_values}
use Rattle.kp_check.proofs.Fitting.{Fits, stepped_fits}

pub record IsGroundOf (n : ℕ) (g : Ground) : Type 0 where
  pub actions : list_all (action_below n) g.actions ≡ true
  pub goal : are_below n g.goal ≡ true

pub ground_of : (n : ℕ) (g : Ground) → length g.atoms ≡ n → IsOfItsAtoms g → IsGroundOf n g
ground_of n g e of = rw (← e) (record { actions = of.actions; goal = of.goal })

pub action_parts : (n : ℕ) (g : Ground) → IsGroundOf n g → (m : ℕ) (a : Action) → slice_get g.actions m ≡ Some a → (are_below n a.pre ≡ true) × (list_all (effect_below n) a.effects ≡ true)
action_parts n g of m a is = and_parts (are_below n a.pre) (list_all (effect_below n) a.effects) (all_member (action_below n) g.actions a (member_at g.actions m a is) of.actions)

pub next_fits : (n : ℕ) (known : List Lit) (g : Ground) → IsGroundOf n g → (vs : List Truth) (s : State) → Fits n known vs s → (m : ℕ) → Fits n known (next_values (slice_get g.actions m) vs) (next (slice_get g.actions m) s)
next_fits n known g of vs s f m = go (slice_get g.actions m) refl
  where
    go : (o : Option Action) → slice_get g.actions m ≡ o → Fits n known (next_values o vs) (next o s)
    go None is = f
    go (Some a) is = stepped_fits n known vs s f a (action_parts n g of m a is).1
