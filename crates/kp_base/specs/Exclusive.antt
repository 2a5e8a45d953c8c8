-- Pairs of atoms that are never true together (mutexes), by a condition that each step keeps.
use Rattle.std.specs.Prelude.{◌≡◌, ◌≢◌, ◌<◌, ℕ, true, false, ◌&&◌, List, [], ◌∷◌, ◌++◌, length}
use Rattle.kp_base.specs.declared.lit.Lit.{Lit}
use Rattle.kp_base.specs.declared.ground.Effect.{Effect}
use Rattle.kp_base.specs.declared.ground.Action.{Action}
use Rattle.kp_base.specs.declared.ground.Ground.{Ground}
use Rattle.kp_base.specs.declared.ground.Initial.{Initial}
use Rattle.kp_base.specs.declared.refused.ClashAt.{ClashAt}
use Rattle.kp_base.specs.Lists.{Member}
use Rattle.kp_base.specs.Lit.{positive, negative}
use Rattle.kp_base.specs.Implicates.{is_within}
use Rattle.kp_base.specs.Steps.{State, is_model}
use Rattle.kp_base.specs.Clashes.{Pairs, are_compatible, compatible_effects, HasNoClash, IsFirstClash}

-- pairs of different atoms, in either order; atoms are below this number
pub record ArePairs (atoms : ℕ) (pairs : Pairs) : Type 0 where
  pub of_atoms : (p q : ℕ) → pairs p q ≡ true → p < atoms
  pub different : (p q : ℕ) → pairs p q ≡ true → p ≢ q
  pub either_order : (p q : ℕ) → pairs p q ≡ true → pairs q p ≡ true

-- each pair of the first set is in the second
abbrev pub IsPart : Pairs → Pairs → Type 0
IsPart some more = (p q : ℕ) → some p q ≡ true → more p q ≡ true

-- in no initial state are both atoms of a pair true
abbrev pub NeverAtTheStart : Initial → Pairs → Type 0
NeverAtTheStart i pairs = (p q : ℕ) → pairs p q ≡ true → (s : State) → is_model i s ≡ true → (s p && s q) ≡ false

-- what holds where the effect fires while the atom is true: precondition, condition and atom
abbrev pub firing_with : Action → Effect → ℕ → List Lit
firing_with a e q = a.pre ++ (e.cond ++ positive q ∷ [])

-- the action has a delete of the atom whose condition is within these literals
pub record Deletes (a : Action) (q : ℕ) (lits : List Lit) : Type 0 where
  pub delete : Effect
  pub of_action : Member a.effects delete
  pub deletes : delete.result ≡ negative q
  pub within : is_within delete.cond lits ≡ true

-- what makes a set of pairs one of atoms that are never true together:
-- in no initial state are both atoms of a pair true;
-- no action has compatible effects that add both;
-- and an effect that adds one, if it is compatible with the other being true, comes with a delete of the other that then fires
pub record IsInductive (g : Ground) (i : Initial) (atoms : ℕ) (pairs : Pairs) : Type 0 where
  pub are_pairs : ArePairs atoms pairs
  pub never_at_the_start : NeverAtTheStart i pairs
  pub never_both_added : (p q : ℕ) → pairs p q ≡ true → (a : Action) (e f : Effect) → Member g.actions a → Member a.effects e → Member a.effects f → e.result ≡ positive p → f.result ≡ positive q → compatible_effects pairs a e f ≡ false
  pub other_deleted : (p q : ℕ) → pairs p q ≡ true → (a : Action) (e : Effect) → Member g.actions a → Member a.effects e → e.result ≡ positive p → are_compatible pairs (firing_with a e q) ≡ true → Deletes a q (firing_with a e q)

-- some inductive set has the pair
pub record IsExclusive (g : Ground) (i : Initial) (atoms p q : ℕ) : Type 0 where
  pub pairs : Pairs
  pub inductive : IsInductive g i atoms pairs
  pub has_pair : pairs p q ≡ true

-- these are just the exclusive pairs
pub record AreExclusive (g : Ground) (i : Initial) (atoms : ℕ) (pairs : Pairs) : Type 0 where
  pub each : (p q : ℕ) → pairs p q ≡ true → IsExclusive g i atoms p q
  pub all : (p q : ℕ) → IsExclusive g i atoms p q → pairs p q ≡ true

-- this is the first clash, conditions judged with the exclusive pairs
pub record ClashesFirst (g : Ground) (i : Initial) (c : ClashAt) : Type 0 where
  pub pairs : Pairs
  pub exclusive : AreExclusive g i (length g.atoms) pairs
  pub first : IsFirstClash pairs g c

-- no action clashes, its conditions judged with the exclusive pairs
pub record IsClashFree (g : Ground) (i : Initial) : Type 0 where
  pub pairs : Pairs
  pub exclusive : AreExclusive g i (length g.atoms) pairs
  pub none : HasNoClash pairs g
