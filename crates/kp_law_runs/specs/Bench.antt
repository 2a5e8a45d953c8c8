-- What a run of `bench` ends with, and what that says of its generated problem.
use Rattle.std.specs.Prelude.{◌≡◌, ◌↔◌, ℕ, List, [], Some, length}
use Rattle.kp_base.specs.declared.lit.Lit.{Lit}
use Rattle.kp_base.specs.Covering.{IsComplete, AreUncovered}
use Rattle.kp_names_semantics.specs.Steps.{Step}
use Rattle.kp_names_semantics.specs.Plans.{IsPlan}
use Rattle.kp_names_semantics.specs.Strip.{strip}
use Rattle.kp_search.specs.declared.found.Found.TheVariants.{Plan, Spent}
use Rattle.kp_search.specs.Ends.{HasMoreStates}
use Rattle.kp_ktask.specs.Translated.{FitsLimits}
use Rattle.kp_run_messages.specs.Searches.{no_plan_text, spent_text}
use Rattle.kp_outside.specs.Outside.{FileMap}
use Rattle.kp_run_outcome.specs.declared.outcome.Outcome.{Outcome}
use Rattle.kp_run_outcome.specs.declared.status.Status.{Status}
use Rattle.kp_run_outcome.specs.declared.status.Status.TheVariants as status
use Rattle.kp_run_outcome.specs.Ends.{Outside}
use Rattle.kp_words.specs.Asked.{of_mode, Asked}
use Rattle.kp_words.specs.Options.{usual_limit}
use Rattle.kp_words.specs.Command.{IsCall}
use Rattle.kp_words.specs.declared.verb.Verb.TheVariants as verbs
use Rattle.kp_run_prepare.specs.Texts.{HaveTrees}
use Rattle.kp_run_prepare.specs.Prepared.{usual, IsPrepared}
use Rattle.kp_run_inputs.specs.SourceTables.{HasTable}
use Rattle.kp_run_solve.specs.Solving.{Finds, AreNamed}
use Rattle.kp_run_bench.specs.Summary.{summary_text}
use Rattle.kp_run_bench.specs.Bench.{texts_of, Benches}
use Rattle.kp_run.specs.Completeness.{PrintsComplete}
use Rattle.kp_run.specs.Solved.{Tells, Posed, its_ground, its_formula, its_task, IsWrittenPlan}
use Rattle.kp_law_runs.specs.Follows.{OfRuns, EndsWith}

-- ---- the problem

-- what a run is about: the trees of the two texts of its family and size, with which it goes on; and the table of its mode, whose task is within the limits
pub record IsPosedBench (c : Asked) : Type 0 where
  pub about : Posed
  pub trees : HaveTrees (texts_of c).domain (texts_of c).problem about.domain_tree about.problem_tree
  pub prepared : IsPrepared usual_limit about.domain_tree about.problem_tree
  pub has_table : HasTable (its_ground about) (its_formula about) (of_mode c.mode) [] about.table
  pub fits : FitsLimits (its_task about) usual

-- ---- what an answer says

-- The search of that task found a plan. Its operators have names that are a plan of the two files that `translate` writes, and its strip is a plan of the two texts. The summary was told, with the number of its steps, and the number of states that the search expanded; `complete` stands in it where no target is uncovered, exactly where the table is complete. Nothing was put.
pub record IsSolvedBench (c : Asked) (old new : Outside) : Type 0 where
  pub posed : IsPosedBench c
  pub ops : List ℕ
  pub expanded : ℕ
  pub ended : Finds (its_task posed.about) c.budget (Plan ops expanded)
  pub written : List Step
  pub plan : List Step
  pub named : AreNamed (its_ground posed.about) posed.about.table ops written plan
  pub is_written : IsWrittenPlan posed.about written
  pub strips : strip written ≡ Some plan
  pub is_plan : IsPlan (texts_of c).domain (texts_of c).problem plan
  pub uncovered : List Lit
  pub are_uncovered : AreUncovered (its_ground posed.about) (its_formula posed.about) posed.about.table uncovered
  pub complete : (uncovered ≡ []) ↔ IsComplete (its_ground posed.about) (its_formula posed.about) posed.about.table
  pub told : Tells old new (summary_text c (its_ground posed.about) posed.about.table uncovered (length plan) expanded)
  pub put : new.held ≡ old.held

-- The two files that `translate` writes have no plan. This was told, with `complete` as the last line exactly where the table is complete; and then the two texts have no plan either. Nothing was put.
pub record HasNoBenchPlan (c : Asked) (old new : Outside) : Type 0 where
  pub posed : IsPosedBench c
  pub uncovered : List Lit
  pub are_uncovered : AreUncovered (its_ground posed.about) (its_formula posed.about) posed.about.table uncovered
  pub none_written : (steps : List Step) → IsWrittenPlan posed.about steps → ⊥
  pub complete : PrintsComplete (no_plan_text uncovered) ↔ IsComplete (its_ground posed.about) (its_formula posed.about) posed.about.table
  pub none_of_texts : PrintsComplete (no_plan_text uncovered) → (steps : List Step) → IsPlan (texts_of c).domain (texts_of c).problem steps → ⊥
  pub told : Tells old new (no_plan_text uncovered)
  pub put : new.held ≡ old.held

-- The search expanded as many states as the budget says; so many different states that don't meet the goal can be reached, and one more such. The budget was told, and nothing was put.
pub record IsSpentBench (c : Asked) (old new : Outside) : Type 0 where
  pub posed : IsPosedBench c
  pub ended : Finds (its_task posed.about) c.budget (Spent c.budget)
  pub more : HasMoreStates (its_task posed.about) c.budget
  pub told : Tells old new (spent_text c.budget)
  pub put : new.held ≡ old.held

-- a plan with Done, that there is none with Negative, and more states than the budget says with Spent
pub record BenchIsTrue (c : Asked) (old new : Outside) (s : Status) : Type 0 where
  pub done : s ≡ status.Done → IsSolvedBench c old new
  pub negative : s ≡ status.Negative → HasNoBenchPlan c old new
  pub spent : s ≡ status.Spent → IsSpentBench c old new

-- ---- laws

-- so it is of each run, whatever the shelf holds
abbrev pub BenchesAreTrue : Type 0
BenchesAreTrue = OfRuns (λ words old new s. (c : Asked) → IsCall verbs.Bench words c → BenchIsTrue c old new s)

-- where the shelf tells, the run ends with what the two texts come to
abbrev pub BenchesAreAnswered : Type 0
BenchesAreAnswered = OfRuns (λ words old new s. (m : FileMap) (c : Asked) (o : Outcome) → old.held ≡ Some m → IsCall verbs.Bench words c → Benches c o → EndsWith o old new s)

-- the trees and the table are one, so what is said of some is said of all
abbrev pub BenchPosedOnce : Type 0
BenchPosedOnce = (c : Asked) (x y : IsPosedBench c) → (x.about.domain_tree ≡ y.about.domain_tree) × (x.about.problem_tree ≡ y.about.problem_tree) × (x.about.table ≡ y.about.table)
