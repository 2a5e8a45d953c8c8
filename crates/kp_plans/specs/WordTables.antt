-- A table of names, each as one word, with their numbers.
use Rattle.std.specs.Prelude.{◌≡◌, ℕ, List, Option}
use Rattle.std.specs.Map.{lookup}
use Rattle.kp_base.specs.declared.ground.GroundName.{GroundName}
use Rattle.kp_names_semantics.specs.Names.{same}
use Rattle.kp_names_semantics.specs.Encoding.{encoded}
use Rattle.kp_plans.specs.declared.step.PlanStep.{PlanStep}
use Rattle.kp_plans.specs.Names.{number_of}

-- the number that stands under a word
abbrev pub number_under : List (List ℕ × ℕ) → List ℕ → Option ℕ
number_under table word = lookup (same word) table

-- under each name stands the position of the first of these names that is that one
pub record IsTableOf (table : List (List ℕ × ℕ)) (names : List GroundName) : Type 0 where
  pub finds : (n : GroundName) → number_under table (encoded n) ≡ number_of names n

-- the number that the table has for the name of a step
abbrev pub step_under : List (List ℕ × ℕ) → PlanStep → Option ℕ
step_under table s = number_under table (encoded s.name)
