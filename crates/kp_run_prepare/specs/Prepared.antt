-- What two texts come to before a command does its own work: their ground problem and their initial formula, or a refusal.
use Rattle.std.specs.Prelude.{◌≡◌, ℕ, List, Result, Ok, Err, length}
use Rattle.kp_base.specs.declared.limits.Limits.{Limits}
use Rattle.kp_base.specs.declared.refused.ClashAt.{ClashAt}
use Rattle.kp_base.specs.declared.refused.Refused.{Refused}
use Rattle.kp_base.specs.declared.refused.Refused.TheVariants as refusals
use Rattle.kp_base.specs.Exclusive.{ClashesFirst, IsClashFree}
use Rattle.kp_base.specs.Implicates.{IsLeastOver, IsNeverOver}
use Rattle.kp_tree_grammar.specs.declared.tree.Word.{Word}
use Rattle.kp_tree_grammar.specs.Trees.{Domain, Problem}
use Rattle.kp_names_semantics.specs.Initial.{HasInitialState}
use Rattle.kp_names_semantics.specs.Numbering.{numbered_problem}
use Rattle.kp_ground.specs.Grounded.{IsGrounded, RefusesGround}
use Rattle.kp_primes.specs.Answers.{HoldsPrimes}
use Rattle.kp_law_translation.specs.OfTrees.{ground_of, initial_of}
use Rattle.kp_run_messages.specs.Refusals.{Nameable, nothing}
use Rattle.kp_run_outcome.specs.declared.outcome.Outcome.{Outcome}
use Rattle.kp_run_prepare.specs.declared.prepared.Prepared.{Prepared as Made}
use Rattle.kp_run_prepare.specs.declared.prepared.Early.{Early}
use Rattle.kp_run_prepare.specs.declared.prepared.Early.TheVariants as halts
use Rattle.kp_run_prepare.specs.Texts.{HaveTrees, RefusesTexts}
use Rattle.kp_run_prepare.specs.Refusing.{refuses, named_in}

-- ---- two trees

-- how large a problem may be
abbrev pub usual : Limits
usual = record { bindings = 1000000; atoms = 4096; actions = 20000; weight = 4000000; tags = 4096; sets = 1000000; facts = 262144; task_weight = 16000000 }

-- the ground problem of the trees is within the limits
abbrev pub IsSmall : Domain Word → Problem Word → Type 0
IsSmall d p = IsGrounded (numbered_problem d p) usual (ground_of d p)

-- a command starts: the ground problem is within the limits, the clauses of `:init` have no more prime implicates than the limit, and some state is initial
pub record IsStarted (limit : ℕ) (d : Domain Word) (p : Problem Word) : Type 0 where
  pub small : IsSmall d p
  pub counted : IsNeverOver (initial_of d p) limit
  pub initial : HasInitialState p

-- and it goes on: no action clashes, too
pub record IsPrepared (limit : ℕ) (d : Domain Word) (p : Problem Word) : Type 0 where
  pub started : IsStarted limit d p
  pub clash_free : IsClashFree (ground_of d p) (initial_of d p)

-- two trees in which no name is at fault are refused, with what the refusal may name: the first of these that holds
pub data RefusesTrees (limit : ℕ) (d : Domain Word) (p : Problem Word) : Nameable → Refused → Type 0 where
  too_large : (r : Refused) → RefusesGround (numbered_problem d p) usual r → RefusesTrees limit d p nothing r
  implicates_over : (k : ℕ) → IsSmall d p → IsLeastOver (initial_of d p) limit k → RefusesTrees limit d p nothing (refusals.ImplicatesOver k)
  no_initial_state : IsSmall d p → IsNeverOver (initial_of d p) limit → (HasInitialState p → ⊥) → RefusesTrees limit d p nothing refusals.NoInitialState
  clash : (at : ClashAt) → IsStarted limit d p → ClashesFirst (ground_of d p) (initial_of d p) at → RefusesTrees limit d p (named_in (ground_of d p)) (refusals.Clash at)

-- ---- two texts

-- a command ends early, with the refusal of a text, of a name, or of what the trees are
pub data EndsEarly (limit : ℕ) (domain problem : List ℕ) (o : Outcome) : Type 0 where
  by_texts : (r : Refused) → RefusesTexts domain problem r → o ≡ refuses nothing r → EndsEarly limit domain problem o
  by_trees : (d : Domain Word) (p : Problem Word) (names : Nameable) (r : Refused) → HaveTrees domain problem d p → RefusesTrees limit d p names r → o ≡ refuses names r → EndsEarly limit domain problem o

-- a command comes to this on two texts: it ends early; or it goes on with their trees, and comes to what `goes_on` says of them
pub data Comes (limit : ℕ) (domain problem : List ℕ) (goes_on : Domain Word → Problem Word → Outcome → Type 0) (o : Outcome) : Type 0 where
  early : EndsEarly limit domain problem o → Comes limit domain problem goes_on o
  later : (d : Domain Word) (p : Problem Word) → HaveTrees domain problem d p → IsPrepared limit d p → goes_on d p o → Comes limit domain problem goes_on o

-- ---- the call

-- the ground problem and the prime implicates of two texts with which a command goes on
pub record IsPreparedOf (limit : ℕ) (domain problem : List ℕ) (x : Made) : Type 0 where
  pub first : Domain Word
  pub second : Problem Word
  pub trees : HaveTrees domain problem first second
  pub prepared : IsPrepared limit first second
  pub ground : x.ground ≡ ground_of first second
  pub primes : HoldsPrimes (initial_of first second) (length (ground_of first second).atoms) limit x.primes

-- these, or the outcome with which a command ends early
abbrev pub AnswersPrepared : ℕ → List ℕ → List ℕ → Result Made Early → Type 0
AnswersPrepared limit domain problem (Ok x) = IsPreparedOf limit domain problem x
AnswersPrepared limit domain problem (Err (halts.With o)) = EndsEarly limit domain problem o
AnswersPrepared limit domain problem (Err halts.Memory) = Unit {0}
