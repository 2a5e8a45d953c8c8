-- What two texts are as a classical task: a ground problem and the task that has its plans, or a refusal.
use Rattle.std.specs.Prelude.{◌≡◌, ℕ, List, Some, None, Result, Ok, Err}
use Rattle.kp_base.specs.declared.limits.Limits.{Limits}
use Rattle.kp_base.specs.declared.refused.Place.{Place}
use Rattle.kp_base.specs.declared.refused.Refused.{Refused}
use Rattle.kp_base.specs.declared.refused.Refused.TheVariants as refusals
use Rattle.kp_tree_grammar.specs.declared.tree.Word.{Word}
use Rattle.kp_tree_grammar.specs.Trees.{Domain, Problem}
use Rattle.kp_names_semantics.specs.Initial.{HasInitialState}
use Rattle.kp_names_semantics.specs.Numbering.{numbered_problem}
use Rattle.kp_names.specs.Resolved.{first_unsure, unsure_place}
use Rattle.kp_ground.specs.Grounded.{IsGrounded, RefusesGround}
use Rattle.kp_classic.specs.declared.task.Task.{Task}
use Rattle.kp_classic.specs.Grounded as classic
use Rattle.kp_law_translation.specs.OfTrees.{ground_of, initial_of}
use Rattle.kp_run_messages.specs.Refusals.{nothing}
use Rattle.kp_run_outcome.specs.declared.outcome.Outcome.{Outcome}
use Rattle.kp_run_prepare.specs.declared.prepared.Early.{Early}
use Rattle.kp_run_prepare.specs.declared.prepared.Early.TheVariants as halts
use Rattle.kp_run_prepare.specs.Texts.{HaveTrees, RefusesTexts}
use Rattle.kp_run_prepare.specs.Refusing.{refuses}
use Rattle.kp_run_classical.specs.declared.posed.Posed.{Posed}

-- ---- two trees

-- how large a classical problem may be
abbrev pub classical : Limits
classical = record { bindings = 1000000; atoms = 262144; actions = 1000000; weight = 16000000; tags = 4096; sets = 1000000; facts = 262144; task_weight = 16000000 }

-- the ground problem of the trees is within these limits
abbrev pub IsSmall : Domain Word → Problem Word → Type 0
IsSmall d p = IsGrounded (numbered_problem d p) classical (ground_of d p)

-- no `oneof`, `or` or `unknown` stands in `:init`
abbrev pub IsCertain : Problem Word → Type 0
IsCertain p = first_unsure p.init ≡ None

-- the trees are classical: nothing leaves the initial state open, the ground problem is within the limits, and there is an initial state
pub record IsClassicalProblem (d : Domain Word) (p : Problem Word) : Type 0 where
  pub certain : IsCertain p
  pub small : IsSmall d p
  pub initial : HasInitialState p

-- two trees in which no name is at fault, the second of this text, are refused: the first of these that holds
pub data RefusesClassical (problem : List ℕ) (d : Domain Word) (p : Problem Word) : Refused → Type 0 where
  not_classical : (at : Place) → unsure_place problem p ≡ Some at → RefusesClassical problem d p (refusals.NotClassical at)
  too_large : (r : Refused) → IsCertain p → RefusesGround (numbered_problem d p) classical r → RefusesClassical problem d p r
  no_initial_state : IsCertain p → IsSmall d p → (HasInitialState p → ⊥) → RefusesClassical problem d p refusals.NoInitialState

-- the task of two trees
abbrev pub task_of : Domain Word → Problem Word → Task
task_of d p = classic.task_of (ground_of d p) (initial_of d p)

-- ---- two texts

-- a command ends early, with the refusal of a text, of a name, or of what the trees are
pub data ClassicalEndsEarly (domain problem : List ℕ) (o : Outcome) : Type 0 where
  by_texts : (r : Refused) → RefusesTexts domain problem r → o ≡ refuses nothing r → ClassicalEndsEarly domain problem o
  by_trees : (d : Domain Word) (p : Problem Word) (r : Refused) → HaveTrees domain problem d p → RefusesClassical problem d p r → o ≡ refuses nothing r → ClassicalEndsEarly domain problem o

-- a command that goes on so with two classical trees comes to this on two texts: it ends early, or goes on
pub data ComesClassical (domain problem : List ℕ) (goes_on : Domain Word → Problem Word → Outcome → Type 0) (o : Outcome) : Type 0 where
  early : ClassicalEndsEarly domain problem o → ComesClassical domain problem goes_on o
  later : (d : Domain Word) (p : Problem Word) → HaveTrees domain problem d p → IsClassicalProblem d p → goes_on d p o → ComesClassical domain problem goes_on o

-- ---- the call

-- the ground problem and the task of two texts with which a command goes on
pub record IsPosedOf (domain problem : List ℕ) (x : Posed) : Type 0 where
  pub first : Domain Word
  pub second : Problem Word
  pub trees : HaveTrees domain problem first second
  pub classical : IsClassicalProblem first second
  pub ground : x.ground ≡ ground_of first second
  pub task : x.task ≡ task_of first second

-- these, or the outcome with which a command ends early
abbrev pub AnswersClassical : List ℕ → List ℕ → Result Posed Early → Type 0
AnswersClassical domain problem (Ok x) = IsPosedOf domain problem x
AnswersClassical domain problem (Err (halts.With o)) = ClassicalEndsEarly domain problem o
AnswersClassical domain problem (Err halts.Memory) = Unit {0}
