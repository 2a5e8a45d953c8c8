-- Running the operators of a task, and that the plans of its two texts are the lists of operators that run and meet the goal.
use Rattle.std.specs.Prelude.{◌≡◌, ◌↔◌, ℕ, Bool, true, false, not, ◌&&◌, ◌||◌, List, [], ◌∷◌, map}
use Rattle.std.specs.Bool.{beq}
use Rattle.std.specs.List.{list_any, list_all, flat_map, AllByRecursion}
use Rattle.kp_base.specs.Lists.{only_if, signed, Member}
use Rattle.kp_names_semantics.specs.Names.{same, is_among}
use Rattle.kp_names_semantics.specs.Steps.{Step}
use Rattle.kp_names_semantics.specs.Plans.{IsPlan}
use Rattle.kp_write.specs.Operators.{Signed, Op}
use Rattle.kp_write.specs.Written.{domain_text, problem_text}
use Rattle.kp_write.specs.Problems.{IsTask}

-- which facts hold
abbrev pub Facts : Type 0
Facts = List ℕ → Bool

-- the fact holds, or, of a negation, doesn't
abbrev pub is_so : Facts → Signed → Bool
is_so s c = signed c.holds (s c.fact)

-- the results of those effects whose conditions all hold
abbrev pub results : Facts → Op → List Signed
results s o = flat_map (λ e. only_if (list_all (is_so s) e.conds) (e.result ∷ [])) o.effects

-- some result makes the fact hold, or makes it hold no longer
abbrev pub is_made : List Signed → Bool → List ℕ → Bool
is_made rs holds n = list_any (λ r. beq holds r.holds && same n r.fact) rs

-- what holds after an operator, all conditions being read before: what is deleted goes, and then what is added comes
abbrev pub after_op : Op → Facts → Facts
after_op o s n = is_made (results s o) true n || (s n && not (is_made (results s o) false n))

-- each operator's precondition holds in its turn, and the goal at the end
abbrev pub runs : List (List ℕ) → List Op → Facts → Bool
runs goal [] s = list_all s goal
runs goal (o ∷ os) s = list_all s o.pre && runs goal os (after_op o s)

-- the step of an operator, which has no objects
abbrev pub step_of : Op → Step
step_of o = record { head = o.name; objects = [] }

-- the steps are those of a list of operators that runs from the facts at the start and meets the goal
pub record IsRun (ops : List Op) (start goal : List (List ℕ)) (steps : List Step) : Type 0 where
  pub taken : List Op
  pub among : AllByRecursion (Member ops) taken
  pub steps_are : map step_of taken ≡ steps
  pub succeeds : runs goal taken (is_among start) ≡ true

-- ---- a law

-- the plans of the two texts are the runs
abbrev pub PlansAreRuns : Type 0
PlansAreRuns = (facts : List (List ℕ)) (ops : List Op) (start goal : List (List ℕ)) → IsTask facts ops start goal → (steps : List Step) → IsPlan (domain_text facts ops) (problem_text start goal) steps ↔ IsRun ops start goal steps
