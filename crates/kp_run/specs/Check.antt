-- What `check` comes to.
use Rattle.std.specs.Prelude.{◌≡◌, ◌==◌, if◌then◌else◌, List, ℕ, Option, Some, None, length, codes}
use Rattle.kp_base.specs.declared.ground.Ground.{Ground}
use Rattle.kp_base.specs.declared.ground.Initial.{Initial}
use Rattle.kp_tree_grammar.specs.declared.tree.Word.{Word}
use Rattle.kp_tree_grammar.specs.Trees as trees
use Rattle.kp_law_translation.specs.OfTrees.{ground_of, initial_of}
use Rattle.kp_check.specs.declared.answer.Judged.{Judged}
use Rattle.kp_check.specs.declared.answer.Judged.TheVariants.{Yes, No}
use Rattle.kp_check.specs.Judging.{IsVerdict}
use Rattle.kp_run_messages.specs.Counterexamples.{counterexample_text}
use Rattle.kp_run_outcome.specs.declared.outcome.Outcome.{Outcome}
use Rattle.kp_run_outcome.specs.Printing.{prints, denies}
use Rattle.kp_words.specs.Asked.{Asked}
use Rattle.kp_run_prepare.specs.Prepared.{Comes}
use Rattle.kp_run_inputs.specs.Actions.{ComesByPlan}

-- the step that fails; none where all of them are passed, and so the goal fails
abbrev pub failing_step : ℕ → ℕ → Option ℕ
failing_step steps k = if k == steps then None else Some k

-- of so many steps: `yes` is printed; or the answer is no, and the first initial state from which they fail is printed, and where
abbrev pub tells : Ground → ℕ → Judged → Outcome
tells g steps Yes = prints (codes "yes\n")
tells g steps (No state k l) = denies (counterexample_text g.atoms state (failing_step steps k) l)

-- it is told of actions whether they succeed from each model
pub record TellsJudged (g : Ground) (i : Initial) (numbers : List ℕ) (o : Outcome) : Type 0 where
  pub judged : Judged
  pub answers : IsVerdict (length g.atoms) g i numbers judged
  pub told : o ≡ tells g (length numbers) judged

-- two trees and a plan are checked to this
abbrev pub ChecksTrees : List ℕ → trees.Domain Word → trees.Problem Word → Outcome → Type 0
ChecksTrees plan d p o = ComesByPlan (ground_of d p) plan (TellsJudged (ground_of d p) (initial_of d p)) o

-- two texts and a plan are checked to this
abbrev pub ChecksTexts : Asked → List ℕ → List ℕ → List ℕ → Outcome → Type 0
ChecksTexts c domain problem plan o = Comes c.implicates domain problem (ChecksTrees plan) o
