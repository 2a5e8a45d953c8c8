-- What the calls on prime implicates answer.
use Rattle.std.specs.Prelude.{◌≡◌, ℕ, List, Option, Some, None, Result, Ok, Err}
use Rattle.kp_base.specs.declared.lit.Lit.{Lit}
use Rattle.kp_base.specs.declared.ground.Initial.{Initial}
use Rattle.kp_base.specs.declared.refused.Stop.{Stop}
use Rattle.kp_base.specs.declared.refused.Stop.TheVariants as stops
use Rattle.kp_base.specs.declared.refused.Refused.{Refused}
use Rattle.kp_base.specs.declared.refused.Refused.TheVariants as refusals
use Rattle.kp_base.specs.Steps.{State, is_model}
use Rattle.kp_base.specs.Entailed.{IsConsistent, HasModel, HasNoModel, IsClosure}
use Rattle.kp_base.specs.Implicates.{ArePrimes, IsLeastOver, IsNeverOver}
use Rattle.kp_primes.specs.Held.{Held, formula}

-- ---- a build

-- just the prime implicates of the initial formula, which has a model; no number of its first clauses has more than the limit
pub record HoldsPrimes (i : Initial) (atoms limit : ℕ) (h : Held) : Type 0 where
  pub atoms_are : h.atoms ≡ atoms
  pub primes : ArePrimes i h.clauses
  pub same_models : (s : State) → is_model (formula h) s ≡ is_model i s
  pub has_model : HasModel i
  pub never_over : IsNeverOver i limit

-- the initial formula has no model, and no number of its first clauses has more prime implicates than the limit
pub record HasNoState (i : Initial) (limit : ℕ) : Type 0 where
  pub no_model : HasNoModel i
  pub never_over : IsNeverOver i limit

-- why there are no prime implicates: too many at the least number of first clauses that has so many, or no model
pub data RefusesPrimes (i : Initial) (limit : ℕ) : Refused → Type 0 where
  too_many : (k : ℕ) → IsLeastOver i limit k → RefusesPrimes i limit (refusals.ImplicatesOver k)
  no_state : HasNoState i limit → RefusesPrimes i limit refusals.NoInitialState

-- what a build answers
abbrev pub AnswersPrimes : Initial → ℕ → ℕ → Result Held Stop → Type 0
AnswersPrimes i atoms limit (Ok h) = HoldsPrimes i atoms limit h
AnswersPrimes i atoms limit (Err (stops.Refused r)) = RefusesPrimes i limit r
AnswersPrimes i atoms limit (Err stops.Memory) = Unit {0}

-- ---- a closure

-- the closure of a tag, or that no model meets it
abbrev pub AnswersClosure : Held → List Lit → Option (List Lit) → Type 0
AnswersClosure h tag None = IsConsistent (formula h) tag → ⊥
AnswersClosure h tag (Some ls) = IsConsistent (formula h) tag × IsClosure h.atoms (formula h) tag ls
