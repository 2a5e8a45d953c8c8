-- What `lift` comes to.
use Rattle.std.specs.Prelude.{◌≡◌, List, ℕ, length}
use Rattle.kp_base.specs.declared.ground.Ground.{Ground}
use Rattle.kp_base.specs.declared.ground.TagTable.{TagTable}
use Rattle.kp_base.specs.declared.lit.Lit.{Lit}
use Rattle.kp_tree_grammar.specs.declared.tree.Word.{Word}
use Rattle.kp_tree_grammar.specs.Trees as trees
use Rattle.kp_law_tagged_machine.specs.Lifts.{lift_of, UnliftedAt}
use Rattle.kp_law_ktask.specs.Accepted.{IsAccepted}
use Rattle.kp_law_translation.specs.OfTrees.{ground_of, initial_of}
use Rattle.kp_names_semantics.specs.Steps.{Step}
use Rattle.kp_plans.specs.Printed.{plan_text}
use Rattle.kp_run_messages.specs.Lifting.{unlifted_text}
use Rattle.kp_run_outcome.specs.declared.outcome.Outcome.{Outcome}
use Rattle.kp_run_outcome.specs.Printing.{prints, denies}
use Rattle.kp_words.specs.Asked.{source_of, Asked}
use Rattle.kp_run_prepare.specs.Prepared.{Comes}
use Rattle.kp_run_inputs.specs.SourceTables.{ComesByTable}
use Rattle.kp_run_inputs.specs.Tasks.{ComesByTask}
use Rattle.kp_run_inputs.specs.Actions.{ComesByPlan}
use Rattle.kp_run.specs.Check.{failing_step}

-- actions are lifted to this: the operators' names are printed, a line each; or the answer is no, and it is printed at which step a literal isn't known in its turn, or at the goal
pub data LiftsActions (g : Ground) (table : TagTable) (numbers : List ℕ) (o : Outcome) : Type 0 where
  lifts : (steps : List Step) → IsAccepted g table steps (lift_of g table numbers) → o ≡ prints (plan_text steps) → LiftsActions g table numbers o
  fails : (k : ℕ) (l : Lit) → UnliftedAt g table numbers k l → o ≡ denies (unlifted_text g.atoms (failing_step (length numbers) k) l) → LiftsActions g table numbers o

-- a plan is lifted with a table to this: the refusal of the task, or of the plan; or its actions are lifted
abbrev pub LiftsPlan : Ground → List ℕ → TagTable → Outcome → Type 0
LiftsPlan g plan table o = ComesByTask g table (ComesByPlan g plan (LiftsActions g table)) o

-- two trees and a plan are lifted to this, with the table of the command's source; `merges` has the text of its file of merges, if it names one
abbrev pub LiftsTrees : Asked → List (List ℕ) → List ℕ → trees.Domain Word → trees.Problem Word → Outcome → Type 0
LiftsTrees c merges plan d p o = ComesByTable (ground_of d p) (initial_of d p) (source_of c) merges (LiftsPlan (ground_of d p) plan) o

-- two texts and a plan are lifted to this
abbrev pub LiftsTexts : Asked → List ℕ → List ℕ → List (List ℕ) → List ℕ → Outcome → Type 0
LiftsTexts c domain problem merges plan o = Comes c.implicates domain problem (LiftsTrees c merges plan) o
