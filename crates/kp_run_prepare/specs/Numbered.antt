-- What a problem by number comes to before a command does its own work. This file serves proofs alone.
use Rattle.std.specs.Prelude.{◌≡◌, ℕ, Result, Ok, Err, length}
use Rattle.kp_base.specs.declared.refused.ClashAt.{ClashAt}
use Rattle.kp_base.specs.declared.refused.Refused.{Refused}
use Rattle.kp_base.specs.declared.refused.Refused.TheVariants as refusals
use Rattle.kp_base.specs.Exclusive.{ClashesFirst, IsClashFree}
use Rattle.kp_base.specs.Entailed.{HasModel}
use Rattle.kp_base.specs.Implicates.{IsLeastOver, IsNeverOver}
use Rattle.kp_primes.specs.Answers.{HasNoState, HoldsPrimes}
use Rattle.kp_names_semantics.specs.Numbered.{Lifted as Numbers}
use Rattle.kp_ground_semantics.specs.Ground.{ground_of}
use Rattle.kp_ground.specs.Grounded.{IsGrounded, RefusesGround}
use Rattle.kp_init.specs.Initial.{initial_of}
use Rattle.kp_run_messages.specs.Refusals.{nothing}
use Rattle.kp_run_outcome.specs.declared.outcome.Outcome.{Outcome}
use Rattle.kp_run_prepare.specs.declared.prepared.Prepared.{Prepared as Made}
use Rattle.kp_run_prepare.specs.declared.prepared.Early.{Early}
use Rattle.kp_run_prepare.specs.declared.prepared.Early.TheVariants as early
use Rattle.kp_run_prepare.specs.Refusing.{refuses, named_in}
use Rattle.kp_run_prepare.specs.Prepared.{usual}

-- the clauses of the initial formula have no more prime implicates than the limit, and it has a model
pub record HasPrimes (limit : ℕ) (l : Numbers) : Type 0 where
  pub never_over : IsNeverOver (initial_of l) limit
  pub has_model : HasModel (initial_of l)

-- no action clashes, and these are the ground problem and the prime implicates
pub record PreparesGround (limit : ℕ) (l : Numbers) (x : Made) : Type 0 where
  pub clash_free : IsClashFree (ground_of l) (initial_of l)
  pub ground : x.ground ≡ ground_of l
  pub primes : HoldsPrimes (initial_of l) (length (ground_of l).atoms) limit x.primes

-- how a ground problem and its initial formula end a command
pub data EndsGround (limit : ℕ) (l : Numbers) : Outcome → Type 0 where
  by_implicates : (k : ℕ) → IsLeastOver (initial_of l) limit k → EndsGround limit l (refuses nothing (refusals.ImplicatesOver k))
  by_no_model : HasNoState (initial_of l) limit → EndsGround limit l (refuses nothing refusals.NoInitialState)
  by_clash : (at : ClashAt) → HasPrimes limit l → ClashesFirst (ground_of l) (initial_of l) at → EndsGround limit l (refuses (named_in (ground_of l)) (refusals.Clash at))

abbrev pub AnswersGround : ℕ → Numbers → Result Made Early → Type 0
AnswersGround limit l (Ok x) = PreparesGround limit l x
AnswersGround limit l (Err (early.With o)) = EndsGround limit l o
AnswersGround limit l (Err early.Memory) = Unit {0}

-- how a problem by number ends a command
pub data EndsWithin (limit : ℕ) (l : Numbers) : Outcome → Type 0 where
  over : (x : Refused) → RefusesGround l usual x → EndsWithin limit l (refuses nothing x)
  within : (o : Outcome) → IsGrounded l usual (ground_of l) → EndsGround limit l o → EndsWithin limit l o

abbrev pub AnswersNumbers : ℕ → Numbers → Result Made Early → Type 0
AnswersNumbers limit l (Ok x) = IsGrounded l usual (ground_of l) × PreparesGround limit l x
AnswersNumbers limit l (Err (early.With o)) = EndsWithin limit l o
AnswersNumbers limit l (Err early.Memory) = Unit {0}
