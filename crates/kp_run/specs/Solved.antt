-- What an answer to `solve` or to `classical` says of the files that it names.
use Rattle.std.specs.Prelude.{◌≡◌, ◌↔◌, ℕ, List, Option, Some, None}
use Rattle.std.specs.FinMap.{get}
use Rattle.kp_base.specs.declared.ground.Ground.{Ground}
use Rattle.kp_base.specs.declared.ground.Initial.{Initial}
use Rattle.kp_base.specs.declared.ground.TagTable.{TagTable}
use Rattle.kp_base.specs.declared.lit.Lit.{Lit}
use Rattle.kp_base.specs.Covering.{IsComplete, AreUncovered}
use Rattle.kp_tree_grammar.specs.declared.tree.Word.{Word}
use Rattle.kp_tree_grammar.specs.Trees.{Domain, Problem}
use Rattle.kp_names_semantics.specs.Steps.{Step}
use Rattle.kp_names_semantics.specs.Plans.{IsPlan}
use Rattle.kp_names_semantics.specs.Strip.{strip}
use Rattle.kp_classic.specs.declared.task.Task.{Task}
use Rattle.kp_plans.specs.Printed.{plan_text, IsTextOf}
use Rattle.kp_search.specs.declared.found.Found.TheVariants.{Spent}
use Rattle.kp_search.specs.Ends.{HasMoreStates}
use Rattle.kp_write.specs.Named.{domain_of, problem_of}
use Rattle.kp_law_ktask.specs.Task.{task_of}
use Rattle.kp_ktask.specs.Translated.{FitsLimits}
use Rattle.kp_law_translation.specs.OfTrees.{ground_of, initial_of}
use Rattle.kp_run_messages.specs.Searches.{no_plan_line, no_plan_text, spent_text}
use Rattle.kp_outside.specs.Outside.{FileMap, with_file, with_bytes}
use Rattle.kp_run_outcome.specs.declared.status.Status.{Status}
use Rattle.kp_run_outcome.specs.declared.status.Status.TheVariants as status
use Rattle.kp_run_outcome.specs.Ends.{Outside, AreHeld}
use Rattle.kp_words.specs.Asked.{Source, Asked, source_of}
use Rattle.kp_words.specs.Command.{file_of, if_named}
use Rattle.kp_run_prepare.specs.Texts.{HaveTrees}
use Rattle.kp_run_prepare.specs.Prepared.{usual, IsPrepared}
use Rattle.kp_run_classical.specs.Classical.{IsClassicalProblem, task_of as classical_task}
use Rattle.kp_run_inputs.specs.SourceTables.{HasTable}
use Rattle.kp_run_solve.specs.Solving.{Finds}
use Rattle.kp_run.specs.Completeness.{PrintsComplete}

-- ---- what is held, and what was told

-- this text was told, and nothing else
abbrev pub Tells : Outside → Outside → List ℕ → Type 0
Tells old new text = new.told ≡ with_bytes old.told text

-- what is held once a text is put under a name, if there is one
abbrev pub with_named : Option FileMap → Option (List ℕ) → List ℕ → Option FileMap
with_named held None text = held
with_named held (Some name) text = with_file held name text

-- ---- `solve`

-- under two names files are held with which a command goes on: they have trees without a fault of names, are within the limits, with some initial state and no clash
pub record GoesOn (m : FileMap) (domain_name problem_name : List ℕ) (limit : ℕ) (d : Domain Word) (p : Problem Word) : Type 0 where
  pub domain : List ℕ
  pub problem : List ℕ
  pub domain_held : get m domain_name ≡ Some domain
  pub problem_held : get m problem_name ≡ Some problem
  pub trees : HaveTrees domain problem d p
  pub prepared : IsPrepared limit d p

-- a source has this table for such trees, on the text of its file of merges if it names one, and the task is within the limits
pub record HasTask (m : FileMap) (source : Source) (d : Domain Word) (p : Problem Word) (table : TagTable) : Type 0 where
  pub merges : List (List ℕ)
  pub held : AreHeld (Some m) (if_named (file_of source)) merges
  pub has_table : HasTable (ground_of d p) (initial_of d p) source merges table
  pub fits : FitsLimits (task_of (ground_of d p) table) usual

-- two trees, and a table of tags and merges for their ground problem
pub record Posed : Type 0 where
  pub domain_tree : Domain Word
  pub problem_tree : Problem Word
  pub table : TagTable

-- their ground problem
abbrev pub its_ground : Posed → Ground
its_ground x = ground_of x.domain_tree x.problem_tree

-- their initial formula
abbrev pub its_formula : Posed → Initial
its_formula x = initial_of x.domain_tree x.problem_tree

-- the task of the two files that `translate` writes for these trees and this table
abbrev pub its_task : Posed → Task
its_task x = task_of (its_ground x) x.table

-- the steps are a plan of these two files, its domain and its problem
abbrev pub IsWrittenPlan : Posed → List Step → Type 0
IsWrittenPlan x steps = IsPlan (domain_of (its_task x)) (problem_of (its_task x)) steps

-- what a call to solve is about: the two files that are held, and their trees, with which it goes on; and the table that its source has for them
pub record IsPosed (m : FileMap) (c : Asked) : Type 0 where
  pub about : Posed
  pub given : GoesOn m c.domain c.problem c.implicates about.domain_tree about.problem_tree
  pub has_task : HasTask m (source_of c) about.domain_tree about.problem_tree about.table

-- The lines of a plan of the two given files were told; it is the strip of a plan of the two files that `translate` writes for them, whose lines were put under the name, if one was given. Both texts read as these plans, and nothing else was told or put.
pub record IsSolved (m : FileMap) (c : Asked) (old new : Outside) : Type 0 where
  pub posed : IsPosed m c
  pub plan : List Step
  pub written : List Step
  pub is_plan : IsPlan posed.given.domain posed.given.problem plan
  pub is_written : IsWrittenPlan posed.about written
  pub strips : strip written ≡ Some plan
  pub told : Tells old new (plan_text plan)
  pub told_reads : IsTextOf (plan_text plan) plan
  pub put : new.held ≡ with_named old.held c.classical (plan_text written)
  pub put_reads : IsTextOf (plan_text written) written

-- The two files that `translate` writes have no plan. This was told, with `complete` as the last line exactly where the table is complete; and then the two given files have no plan either. Nothing was put.
pub record HasNoPlan (m : FileMap) (c : Asked) (old new : Outside) : Type 0 where
  pub posed : IsPosed m c
  pub uncovered : List Lit
  pub are_uncovered : AreUncovered (its_ground posed.about) (its_formula posed.about) posed.about.table uncovered
  pub none_written : (steps : List Step) → IsWrittenPlan posed.about steps → ⊥
  pub complete : PrintsComplete (no_plan_text uncovered) ↔ IsComplete (its_ground posed.about) (its_formula posed.about) posed.about.table
  pub none_given : PrintsComplete (no_plan_text uncovered) → (steps : List Step) → IsPlan posed.given.domain posed.given.problem steps → ⊥
  pub told : Tells old new (no_plan_text uncovered)
  pub put : new.held ≡ old.held

-- The search of the task of the two files that `translate` writes expanded as many states as the budget says; so many different states that don't meet the goal can be reached there, and one more such. The budget was told, and nothing was put.
pub record IsSpent (m : FileMap) (c : Asked) (old new : Outside) : Type 0 where
  pub posed : IsPosed m c
  pub ended : Finds (its_task posed.about) c.budget (Spent c.budget)
  pub more : HasMoreStates (its_task posed.about) c.budget
  pub told : Tells old new (spent_text c.budget)
  pub put : new.held ≡ old.held

-- what an answer says: a plan with Done, that there is none with Negative, and more states than the budget says with Spent
pub record SolveIsTrue (m : FileMap) (c : Asked) (old new : Outside) (s : Status) : Type 0 where
  pub done : s ≡ status.Done → IsSolved m c old new
  pub negative : s ≡ status.Negative → HasNoPlan m c old new
  pub spent : s ≡ status.Spent → IsSpent m c old new

-- ---- `classical`

-- under two names classical files are held: they have trees without a fault of names, with one initial state, within the limits
pub record IsHeldClassical (m : FileMap) (domain_name problem_name : List ℕ) (d : Domain Word) (p : Problem Word) : Type 0 where
  pub domain : List ℕ
  pub problem : List ℕ
  pub domain_held : get m domain_name ≡ Some domain
  pub problem_held : get m problem_name ≡ Some problem
  pub trees : HaveTrees domain problem d p
  pub classical : IsClassicalProblem d p

-- what a call to `classical` is about: the two files that are held, and their trees
pub record IsPosedClassical (m : FileMap) (c : Asked) : Type 0 where
  pub domain_tree : Domain Word
  pub problem_tree : Problem Word
  pub given : IsHeldClassical m c.domain c.problem domain_tree problem_tree

-- the lines of a plan of the two files were told, which read as this plan, and nothing else was told or put
pub record IsSolvedClassical (m : FileMap) (c : Asked) (old new : Outside) : Type 0 where
  pub posed : IsPosedClassical m c
  pub plan : List Step
  pub is_plan : IsPlan posed.given.domain posed.given.problem plan
  pub told : Tells old new (plan_text plan)
  pub told_reads : IsTextOf (plan_text plan) plan
  pub put : new.held ≡ old.held

-- the two files have no plan; this was told, and nothing was put
pub record HasNoClassicalPlan (m : FileMap) (c : Asked) (old new : Outside) : Type 0 where
  pub posed : IsPosedClassical m c
  pub none : (steps : List Step) → IsPlan posed.given.domain posed.given.problem steps → ⊥
  pub told : Tells old new no_plan_line
  pub put : new.held ≡ old.held

-- The search of their task expanded as many states as the budget says; so many different states that don't meet the goal can be reached there, and one more such. The budget was told, and nothing was put.
pub record IsSpentClassical (m : FileMap) (c : Asked) (old new : Outside) : Type 0 where
  pub posed : IsPosedClassical m c
  pub ended : Finds (classical_task posed.domain_tree posed.problem_tree) c.budget (Spent c.budget)
  pub more : HasMoreStates (classical_task posed.domain_tree posed.problem_tree) c.budget
  pub told : Tells old new (spent_text c.budget)
  pub put : new.held ≡ old.held

-- what an answer says, likewise
pub record ClassicalIsTrue (m : FileMap) (c : Asked) (old new : Outside) (s : Status) : Type 0 where
  pub done : s ≡ status.Done → IsSolvedClassical m c old new
  pub negative : s ≡ status.Negative → HasNoClassicalPlan m c old new
  pub spent : s ≡ status.Spent → IsSpentClassical m c old new
