-- What the end of a search says of its task is true.
use Rattle.std.proofs.Common.{ℕ, length}
use Rattle.kp_classic.specs.declared.task.Task.{Task}
use Rattle.kp_classic.specs.States.{has}
use Rattle.kp_guide.proofs.Public.{added_is_right}
use Rattle.kp_search.specs.declared.found.Found.{Found}
use Rattle.kp_search.specs.declared.found.Found.TheVariants.{Plan, NoPlan, Spent}
use Rattle.kp_search.specs.Ends.{Tells, by_added}
use Rattle.kp_search.proofs.Public.{ends_tell}
use Rattle.kp_run_solve.specs.Laws.{EndsAreTrue}
use Rattle.kp_run_solve.specs.Operators.{IsInside}

pub ends_true : EndsAreTrue
ends_true t budget found fit finds = ends_tell t fit (by_added t) budget (λ s same none ks. added_is_right t (has s.hold) ks none) found finds

-- the operators of a plan are the task's
pub inside : (t : Task) (budget : ℕ) (found : Found) → Tells t budget found → IsInside (length t.ops) found
inside t budget (Plan ops k) h = h.0
inside t budget NoPlan h = tt
inside t budget (Spent k) h = tt
