-- How a plan is printed, and that it reads back.
use Rattle.std.specs.Prelude.{◌≡◌, ℕ, List, []}
use Rattle.std.specs.List.{AllByRecursion}
use Rattle.kp_base.specs.declared.ground.GroundName.{GroundName}
use Rattle.kp_names_semantics.specs.GroundNames.{IsGroundName}
use Rattle.kp_law_texts.specs.Pieces.{Piece, Put, ◌⨾◌, each, line_feed, spelling}
use Rattle.kp_plans_spelling.specs.Spelling.{name_put}
use Rattle.kp_plans.specs.declared.step.PlanStep.{PlanStep}
use Rattle.kp_plans.specs.PlanFiles.{step_names, IsPlanFile}

-- (HEAD OBJECT OBJECT) on a line of its own
abbrev pub step_line : GroundName → Put
step_line n = name_put n ⨾ line_feed

-- a line for each step
abbrev pub plan_pieces : List GroundName → List Piece
plan_pieces steps = each step_line steps []

-- the bytes of the lines
abbrev pub plan_text : List GroundName → List ℕ
plan_text steps = spelling (plan_pieces steps)

-- the text reads as a plan whose steps have these names
pub record IsTextOf (text : List ℕ) (named : List GroundName) : Type 0 where
  pub steps : List PlanStep
  pub have : step_names steps ≡ named
  pub plan : IsPlanFile text steps

-- ---- a law

-- what is printed of steps whose names are Names in lower case reads as these steps
abbrev pub PrintedPlansRead : Type 0
PrintedPlansRead = (steps : List GroundName) → AllByRecursion IsGroundName steps → IsTextOf (plan_text steps) steps
