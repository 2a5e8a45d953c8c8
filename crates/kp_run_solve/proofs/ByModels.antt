-- What a ground problem is solved to goes by the models of its initial formula.
use Rattle.std.proofs.Common.{ℕ, List, Option}
use Rattle.kp_base.specs.declared.ground.Ground.{Ground}
use Rattle.kp_base.specs.declared.ground.Initial.{Initial}
use Rattle.kp_base.specs.declared.ground.TagTable.{TagTable}
use Rattle.kp_base.specs.Entailed.{HaveSameModels}
use Rattle.kp_search.specs.declared.found.Found.{Found}
use Rattle.kp_search.specs.declared.found.Found.TheVariants.{Plan, NoPlan, Spent}
use Rattle.kp_tags.proofs.Public.{coverage_goes_by_models}
use Rattle.kp_law_ktask.specs.Task.{task_of}
use Rattle.kp_run_inputs.proofs.Public.{by_task_also}
use Rattle.kp_run_outcome.specs.declared.outcome.Outcome.{Outcome}
use Rattle.kp_run_solve.specs.Solving.{Searches, TellsSolved, SolvesGround}

pub told_by : (name : Option (List ℕ)) (g : Ground) (i j : Initial) (table : TagTable) (o : Outcome) → HaveSameModels i j → (found : Found) → TellsSolved name g i table found o → TellsSolved name g j table found o
told_by name g i j table o same (Plan ops n) t = t
told_by name g i j table o same NoPlan t = (t.0, coverage_goes_by_models g i j table t.0 same t.1, t.2)
told_by name g i j table o same (Spent n) t = t

pub ground_by : (name : Option (List ℕ)) (budget : ℕ) (g : Ground) (i j : Initial) (table : TagTable) (o : Outcome) → HaveSameModels i j → SolvesGround name budget g i table o → SolvesGround name budget g j table o
ground_by name budget g i j table o same h = by_task_also g table (Searches (task_of g table) budget (TellsSolved name g i table)) (Searches (task_of g table) budget (TellsSolved name g j table)) o (λ s. record { found = s.found; finds = s.finds; tells = told_by name g i j table o same s.found s.tells }) h
