-- How a search ends, and what that says of the task.
use Rattle.std.specs.Prelude.{◌≡◌, ℕ, true, false, List, Option, Some, length, slice_get}
use Rattle.kp_base.specs.Lists.{Member}
use Rattle.kp_classic.specs.declared.task.Task.{Task}
use Rattle.kp_classic.specs.Fits.{are_below}
use Rattle.kp_classic.specs.Runs.{state_at_end}
use Rattle.kp_classic.specs.States.{FactSet, has}
use Rattle.kp_classic.specs.Steps.{start, succeeds}
use Rattle.kp_guide.specs.Added.{IsAdded}
use Rattle.kp_search.specs.declared.found.Found.{Found}
use Rattle.kp_search.specs.declared.found.Found.TheVariants.{Plan, NoPlan, Spent}
use Rattle.kp_search.specs.Trace.{is_goal, EndsWithPlan, EndsSpent, EndsWithoutPlan}

-- the end of a course that an answer tells
abbrev pub HasEnd : Task → (FactSet → Option ℕ → Type 0) → ℕ → Found → Type 0
HasEnd t may budget (Plan ops n) = EndsWithPlan t may budget ops n
HasEnd t may budget NoPlan = EndsWithoutPlan t may budget
HasEnd t may budget (Spent n) = EndsSpent t may budget n

-- a state is estimated by `added`
abbrev pub by_added : Task → FactSet → Option ℕ → Type 0
by_added t s = IsAdded t (has s.hold)

-- ---- what it says

-- some operators lead from the start to the state
pub record IsReached (t : Task) (s : FactSet) : Type 0 where
  pub ops : List ℕ
  pub leads : state_at_end t ops ≡ Some s

-- so many different states can be reached that don't meet the goal, and one more such
pub record HasMoreStates (t : Task) (budget : ℕ) : Type 0 where
  pub states : List FactSet
  pub many : length states ≡ budget
  pub different : (i j : ℕ) (s : FactSet) → slice_get states i ≡ Some s → slice_get states j ≡ Some s → i ≡ j
  pub reached : (s : FactSet) → Member states s → IsReached t s
  pub no_goal : (s : FactSet) → Member states s → is_goal t s ≡ false
  pub one_more : FactSet
  pub more_reached : IsReached t one_more
  pub more_is_new : Member states one_more → ⊥
  pub more_no_goal : is_goal t one_more ≡ false

-- The operators are those of the task, and are a plan; or there is none; or there are more states than the budget says.
abbrev pub Tells : Task → ℕ → Found → Type 0
Tells t budget (Plan ops n) = (are_below (length t.ops) ops ≡ true) × (succeeds t (start t) ops ≡ true)
Tells t budget NoPlan = (ops : List ℕ) → succeeds t (start t) ops ≡ false
Tells t budget (Spent n) = HasMoreStates t budget
