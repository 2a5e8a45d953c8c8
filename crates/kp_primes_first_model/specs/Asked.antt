-- What is asked of states that are known by some of their literals.
use Rattle.std.specs.Prelude.{◌≡◌, ◌<◌, ℕ, zero, suc, Bool, true, false, ◌&&◌, List, [], ◌∷◌, length, Option, Some, None}
use Rattle.std.specs.List.{list_any, list_all}
use Rattle.kp_base.specs.declared.lit.Lit.{Lit}
use Rattle.kp_base.specs.declared.ground.Initial.{Initial}
use Rattle.kp_base.specs.Steps.{State, holds, is_model}
use Rattle.kp_base.specs.Entailed.{IsConsistent}
use Rattle.kp_base.specs.Implicates.{are_below}
use Rattle.kp_primes_first_model.specs.declared.truth.Truth.{Truth}
use Rattle.kp_primes_first_model.specs.declared.truth.Truth.TheVariants.{Yes, No, Open}
use Rattle.kp_primes_first_model.specs.Known.{is_decided}
use Rattle.kp_primes_first_model.specs.Truths.{IsTruth}

-- the state passes one of the tests
abbrev pub passes_one : List (State → Bool) → State → Bool
passes_one tests s = list_any (λ test. test s) tests

-- it is a model, and passes
abbrev pub is_wanted : Initial → (State → Bool) → State → Bool
is_wanted i passes s = is_model i s && passes s

-- the test with this number; no state passes where there is none
abbrev pub test_at : List (State → Bool) → ℕ → State → Bool
test_at [] k s = false
test_at (test ∷ tests) zero s = test s
test_at (test ∷ tests) (suc k) s = test_at tests k s

-- whether the states in which the known literals are true pass a test
abbrev pub Judges : ℕ → (State → Bool) → List Lit → Truth → Type 0
Judges n passes known t = (s : State) → list_all (holds s) known ≡ true → IsTruth n known (passes s) t

-- other tests are as many, and of the states that are asked about each passes the same ones
pub record AskTheSame (asked : State → Bool) (tests others : List (State → Bool)) : Type 0 where
  pub as_many : length others ≡ length tests
  pub same : (k : ℕ) (s : State) → asked s ≡ true → test_at others k s ≡ test_at tests k s

-- ---- for proofs alone

-- a tag of the first n atoms that some model satisfies, and all of whose models pass and satisfy the given one
pub record IsWitness (n : ℕ) (i : Initial) (passes : State → Bool) (tag found : List Lit) : Type 0 where
  pub below : are_below n found ≡ true
  pub within : (s : State) → is_model i s ≡ true → list_all (holds s) found ≡ true → list_all (holds s) tag ≡ true
  pub met : IsConsistent i found
  pub each : (s : State) → is_model i s ≡ true → list_all (holds s) found ≡ true → passes s ≡ true

-- such a tag; none where no model of the given one passes
abbrev pub AnswersFind : ℕ → Initial → (State → Bool) → List Lit → Option (List Lit) → Type 0
AnswersFind n i passes tag None = (s : State) → is_model i s ≡ true → list_all (holds s) tag ≡ true → passes s ≡ false
AnswersFind n i passes tag (Some found) = IsWitness n i passes tag found

-- a tag has models, and all of them pass; or none passes; or this atom isn't decided by it
abbrev pub JudgesTag : ℕ → Initial → (State → Bool) → List Lit → Truth → Type 0
JudgesTag n i passes tag Yes = AnswersFind n i passes tag (Some tag)
JudgesTag n i passes tag No = AnswersFind n i passes tag None
JudgesTag n i passes tag (Open a) = (a.0 < n) × (is_decided tag a.0 ≡ false)
