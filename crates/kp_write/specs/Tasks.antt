-- Which tasks by number can be written; their texts read as them, and the plans of these are their runs.
use Rattle.std.specs.Prelude.{◌≡◌, ◌↔◌, ℕ, true, List, [], Option, Some, option_map, map, length, slice_get}
use Rattle.std.specs.List.{list_all, AllByRecursion, IsDistinct}
use Rattle.kp_tree_grammar.specs.Words.{IsName}
use Rattle.kp_names_semantics.specs.Names.{same}
use Rattle.kp_names_semantics.specs.Steps.{Step}
use Rattle.kp_names_semantics.specs.Plans.{IsPlan}
use Rattle.kp_classic.specs.declared.task.Op.{Op}
use Rattle.kp_classic.specs.declared.task.Task.{Task}
use Rattle.kp_classic.specs.Fits.{are_below, fits, fits_op}
use Rattle.kp_classic.specs.Steps.{start, succeeds}
use Rattle.kp_write.specs.Names.{AreHeads}
use Rattle.kp_write.specs.Problems.{HasMeantProblem}
use Rattle.kp_write.specs.Named.{named_ops, named_start, named_goal, domain_of, problem_of}

-- an operator that can be written: it has a name, and no fact must be absent
pub record IsWritableOp (o : Op) : Type 0 where
  pub name : IsName o.name
  pub positive : o.pre.no ≡ []

-- A task that can be written: its facts and operators have names that differ, where preconditions and the goal are asked facts must hold, and each number is that of a fact.
pub record CanBeWritten (t : Task) : Type 0 where
  pub heads : AreHeads t.facts
  pub facts_differ : IsDistinct same t.facts
  pub operators : AllByRecursion IsWritableOp t.ops
  pub operators_differ : IsDistinct same (map (λ o. o.name) t.ops)
  pub goal_positive : t.goal.no ≡ []
  pub start_fits : are_below (length t.facts) t.init ≡ true
  pub goal_fits : fits (length t.facts) t.goal ≡ true
  pub operators_fit : list_all (fits_op (length t.facts)) t.ops ≡ true

-- the step of an operator: its name, without objects
abbrev pub op_step : Op → Step
op_step o = record { head = o.name; objects = [] }

-- that of the operator of this number
abbrev pub operator_step : Task → ℕ → Option Step
operator_step t n = option_map op_step (slice_get t.ops n)

-- the steps are those of operators by number that are applicable in turn from the start, and meet the goal
pub record IsRunOf (t : Task) (steps : List Step) (ns : List ℕ) : Type 0 where
  pub steps_are : map (operator_step t) ns ≡ map Some steps
  pub succeeds : succeeds t (start t) ns ≡ true

-- ---- laws

-- the two texts have the problem that is meant
abbrev pub TasksRead : Type 0
TasksRead = (t : Task) → CanBeWritten t → HasMeantProblem t.facts (named_ops t) (named_start t) (named_goal t)

-- the plans of the two texts are the runs of the task
abbrev pub TaskPlansAreRuns : Type 0
TaskPlansAreRuns = (t : Task) → CanBeWritten t → (steps : List Step) → IsPlan (domain_of t) (problem_of t) steps ↔ ((ns : List ℕ) × IsRunOf t steps ns)
