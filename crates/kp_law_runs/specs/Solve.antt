-- What a run of `solve` or of `classical` ends with, and what that says of its files.
use Rattle.std.specs.Prelude.{◌≡◌, List, Some}
use Rattle.kp_base.specs.declared.ground.TagTable.{TagTable}
use Rattle.kp_base.specs.declared.limits.Mode.{Mode}
use Rattle.kp_tree_grammar.specs.declared.tree.Word.{Word}
use Rattle.kp_tree_grammar.specs.Trees.{Domain, Problem}
use Rattle.kp_names_semantics.specs.Steps.{Step}
use Rattle.kp_names_semantics.specs.Plans.{IsPlan}
use Rattle.kp_tags_modes.specs.Modes.{CoversEach}
use Rattle.kp_law_translation.specs.OfTrees.{ground_of, initial_of}
use Rattle.kp_run_messages.specs.Searches.{no_plan_text}
use Rattle.kp_outside.specs.Outside.{FileMap}
use Rattle.kp_run_outcome.specs.declared.outcome.Outcome.{Outcome}
use Rattle.kp_run_outcome.specs.declared.status.Status.TheVariants as status
use Rattle.kp_run_outcome.specs.Ends.{Outside}
use Rattle.kp_words.specs.Asked.{of_mode, Asked, source_of}
use Rattle.kp_words.specs.Command.{IsCall}
use Rattle.kp_words.specs.declared.verb.Verb.TheVariants as verbs
use Rattle.kp_run_classical.specs.Classical.{task_of as classical_task}
use Rattle.kp_run_solve.specs.Solving.{SolvesGround, SolvesClassical}
use Rattle.kp_run.specs.Completeness.{PrintsComplete}
use Rattle.kp_run.specs.Solved.{GoesOn, HasTask, IsPosed, IsSolved, HasNoPlan, IsSpent, IsHeldClassical, IsPosedClassical, IsSolvedClassical, HasNoClassicalPlan, IsSpentClassical}
use Rattle.kp_law_runs.specs.Follows.{OfRuns, EndsWith}

-- ---- `solve`

-- a call to solve on such files: the run ends with what the search comes to
abbrev pub SolvingsAreAnswered : Type 0
SolvingsAreAnswered = OfRuns (λ words old new s. (m : FileMap) (c : Asked) (d : Domain Word) (p : Problem Word) (table : TagTable) (o : Outcome)
    → old.held ≡ Some m → IsCall verbs.Solve words c → GoesOn m c.domain c.problem c.implicates d p → HasTask m (source_of c) d p table → SolvesGround c.classical c.budget (ground_of d p) (initial_of d p) table o
    → EndsWith o old new s)

-- the trees and the table are one, so what is said of some is said of all
abbrev pub PosedOnce : Type 0
PosedOnce = (m : FileMap) (c : Asked) (x y : IsPosed m c) → (x.about.domain_tree ≡ y.about.domain_tree) × (x.about.problem_tree ≡ y.about.problem_tree) × (x.about.table ≡ y.about.table)

-- where the shelf tells and a call to solve ends with Done, it told a plan of the two files
abbrev pub SolvedIsAPlan : Type 0
SolvedIsAPlan = OfRuns (λ words old new s. (m : FileMap) (c : Asked) → old.held ≡ Some m → IsCall verbs.Solve words c → s ≡ status.Done → IsSolved m c old new)

-- where it ends with Negative, there is none
abbrev pub NoPlanIsTrue : Type 0
NoPlanIsTrue = OfRuns (λ words old new s. (m : FileMap) (c : Asked) → old.held ≡ Some m → IsCall verbs.Solve words c → s ≡ status.Negative → HasNoPlan m c old new)

-- the two given files have no plan: this was told, with `complete` as the last line
pub record GivenHaveNoPlan (m : FileMap) (c : Asked) (old new : Outside) : Type 0 where
  pub answer : HasNoPlan m c old new
  pub complete : PrintsComplete (no_plan_text answer.uncovered)
  pub none : (steps : List Step) → IsPlan answer.posed.given.domain answer.posed.given.problem steps → ⊥

-- under `--mode models`, and under `--mode auto`, they have none where it ends with Negative
abbrev pub NoPlanInSomeModes : Type 0
NoPlanInSomeModes = OfRuns (λ words old new s. (m : FileMap) (c : Asked) (mode : Mode) → old.held ≡ Some m → IsCall verbs.Solve words c → source_of c ≡ of_mode mode → CoversEach mode → s ≡ status.Negative → GivenHaveNoPlan m c old new)

-- where it ends with Spent, there are more states than the budget says
abbrev pub SpentIsTrue : Type 0
SpentIsTrue = OfRuns (λ words old new s. (m : FileMap) (c : Asked) → old.held ≡ Some m → IsCall verbs.Solve words c → s ≡ status.Spent → IsSpent m c old new)

-- ---- `classical`

-- a call to solve such files: the run ends with what the search comes to
abbrev pub ClassicalsAreAnswered : Type 0
ClassicalsAreAnswered = OfRuns (λ words old new s. (m : FileMap) (c : Asked) (d : Domain Word) (p : Problem Word) (o : Outcome)
    → old.held ≡ Some m → IsCall verbs.Classical words c → IsHeldClassical m c.domain c.problem d p → SolvesClassical c.budget (ground_of d p) (classical_task d p) o
    → EndsWith o old new s)

-- the trees are one
abbrev pub ClassicalPosedOnce : Type 0
ClassicalPosedOnce = (m : FileMap) (c : Asked) (x y : IsPosedClassical m c) → (x.domain_tree ≡ y.domain_tree) × (x.problem_tree ≡ y.problem_tree)

-- where the shelf tells and a call to solve classical files ends with Done, it told a plan of the two files
abbrev pub ClassicalIsAPlan : Type 0
ClassicalIsAPlan = OfRuns (λ words old new s. (m : FileMap) (c : Asked) → old.held ≡ Some m → IsCall verbs.Classical words c → s ≡ status.Done → IsSolvedClassical m c old new)

-- where it ends with Negative, there is none
abbrev pub NoClassicalPlanIsTrue : Type 0
NoClassicalPlanIsTrue = OfRuns (λ words old new s. (m : FileMap) (c : Asked) → old.held ≡ Some m → IsCall verbs.Classical words c → s ≡ status.Negative → HasNoClassicalPlan m c old new)

-- where it ends with Spent, there are more states than the budget says
abbrev pub ClassicalSpentIsTrue : Type 0
ClassicalSpentIsTrue = OfRuns (λ words old new s. (m : FileMap) (c : Asked) → old.held ≡ Some m → IsCall verbs.Classical words c → s ≡ status.Spent → IsSpentClassical m c old new)
