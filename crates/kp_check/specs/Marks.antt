-- The literals that a run meets and that aren't known to be true there. This file serves proofs alone.
use Rattle.std.specs.Prelude.{◌≡◌, ℕ, zero, suc, ◌+◌, Bool, true, false, not, if◌then◌else◌, nat_lt, List, [], ◌∷◌, ◌++◌, Some, None, length, slice_get, take, fold}
use Rattle.std.specs.List.{list_any, list_all}
use Rattle.kp_base.specs.declared.lit.Lit.{Lit}
use Rattle.kp_base.specs.declared.ground.Ground.{Ground}
use Rattle.kp_base.specs.declared.ground.Initial.{Initial}
use Rattle.kp_base.specs.Steps.{State, holds, is_model, state_after, succeeds, asked}
use Rattle.kp_base.specs.Implicates.{IsOfItsAtoms}
use Rattle.kp_primes_first_model.specs.declared.truth.Truth.{Truth}
use Rattle.kp_primes_first_model.specs.declared.truth.Truth.TheVariants.{Yes, No, Open}
use Rattle.kp_check.specs.declared.failing.At.{At}
use Rattle.kp_check.specs.Values.{truth_at, next_values}

abbrev pub is_yes : Truth → Bool
is_yes Yes = true
is_yes No = false
is_yes (Open a) = false

abbrev pub with_open : List Truth → ℕ → List At → Lit → List At
with_open vs k ms l = if is_yes (truth_at vs l) then ms else ms ++ record { step = k; literal = l } ∷ []

-- those of a run that ignores preconditions, its steps counted from k on
abbrev pub open_marks : Ground → List Truth → List ℕ → ℕ → List At → List At
open_marks g vs [] k ms = fold (with_open vs k) ms (asked g None)
open_marks g vs (n ∷ ns) k ms = open_marks g (next_values (slice_get g.actions n) vs) ns (k + 1) (fold (with_open vs k) ms (asked g (Some n)))

-- the values after the first k steps
abbrev pub later_values : Ground → List Truth → List ℕ → ℕ → List Truth
later_values g vs [] k = vs
later_values g vs (n ∷ ns) zero = vs
later_values g vs (n ∷ ns) (suc k) = later_values g (next_values (slice_get g.actions n) vs) ns k

-- the literal is false there on the run that ignores preconditions
abbrev pub is_false_at : Ground → List ℕ → At → State → Bool
is_false_at g ns m s = not (holds (state_after g s (take m.step ns)) m.literal)

abbrev pub are_marks_below : ℕ → List At → Bool
are_marks_below n ms = list_all (λ m. nat_lt m.literal.atom.0 n) ms

-- what the question needs
pub record IsReady (n : ℕ) (g : Ground) (ms : List At) : Type 0 where
  pub atoms : length g.atoms ≡ n
  pub ground : IsOfItsAtoms g
  pub marks : are_marks_below n ms ≡ true

-- the literals are true in each model
abbrev pub AreInEach : Initial → List Lit → Type 0
AreInEach i known = (s : State) → is_model i s ≡ true → list_all (holds s) known ≡ true

-- a model fails exactly where one of them is false in its turn
pub record AreMarks (n : ℕ) (g : Ground) (i : Initial) (ns : List ℕ) (ms : List At) : Type 0 where
  pub below : are_marks_below n ms ≡ true
  pub exact : (s : State) → is_model i s ≡ true → list_any (λ m. is_false_at g ns m s) ms ≡ not (succeeds g s ns)
