-- What a problem by number comes to as a classical task. This file serves proofs alone.
use Rattle.std.specs.Prelude.{◌≡◌, Bool, true, false, Result, Ok, Err}
use Rattle.std.specs.List.{list_all}
use Rattle.kp_base.specs.declared.ground.Ground.{Ground}
use Rattle.kp_base.specs.declared.ground.Initial.{Initial}
use Rattle.kp_base.specs.declared.refused.Refused.{Refused}
use Rattle.kp_base.specs.declared.refused.Refused.TheVariants as refusals
use Rattle.kp_base.specs.Entailed.{HasModel, HasNoModel}
use Rattle.kp_names_semantics.specs.declared.lifted.Item.{Item}
use Rattle.kp_names_semantics.specs.Numbered.{Lifted as Numbers}
use Rattle.kp_ground_semantics.specs.Ground.{ground_of}
use Rattle.kp_ground.specs.Grounded.{IsGrounded, RefusesGround}
use Rattle.kp_init.specs.Initial.{initial_of}
use Rattle.kp_classic.specs.Grounded.{task_of}
use Rattle.kp_run_messages.specs.Refusals.{nothing}
use Rattle.kp_run_outcome.specs.declared.outcome.Outcome.{Outcome}
use Rattle.kp_run_prepare.specs.declared.prepared.Early.{Early}
use Rattle.kp_run_prepare.specs.declared.prepared.Early.TheVariants as early
use Rattle.kp_run_prepare.specs.Refusing.{refuses}
use Rattle.kp_run_classical.specs.declared.posed.Posed.{Posed}
use Rattle.kp_run_classical.specs.Classical.{classical}

-- the item is a literal
abbrev pub is_fact : Item → Bool
is_fact (Item.One m) = true
is_fact (Item.OneOf ms) = false
is_fact (Item.AnyOf ms) = false
is_fact (Item.Unknown m) = false

-- each item is
abbrev pub HasFacts : Numbers → Type 0
HasFacts l = list_all is_fact l.init ≡ true

-- the formula has a model, and this is the task
pub record PosesTask (g : Ground) (i : Initial) (x : Posed) : Type 0 where
  pub has_model : HasModel i
  pub ground : x.ground ≡ g
  pub task : x.task ≡ task_of g i

-- the formula has no model
pub record EndsHere (i : Initial) (o : Outcome) : Type 0 where
  pub no_model : HasNoModel i
  pub outcome : o ≡ refuses nothing refusals.NoInitialState

abbrev pub AnswersFormula : Ground → Initial → Result Posed Early → Type 0
AnswersFormula g i (Ok x) = PosesTask g i x
AnswersFormula g i (Err (early.With o)) = EndsHere i o
AnswersFormula g i (Err early.Memory) = Unit {0}

-- how a problem by number ends a command
pub data EndsWithin (l : Numbers) : Outcome → Type 0 where
  over : (r : Refused) → RefusesGround l classical r → EndsWithin l (refuses nothing r)
  within : (o : Outcome) → IsGrounded l classical (ground_of l) → EndsHere (initial_of l) o → EndsWithin l o

abbrev pub AnswersNumbers : Numbers → Result Posed Early → Type 0
AnswersNumbers l (Ok x) = IsGrounded l classical (ground_of l) × PosesTask (ground_of l) (initial_of l) x
AnswersNumbers l (Err (early.With o)) = EndsWithin l o
AnswersNumbers l (Err early.Memory) = Unit {0}
