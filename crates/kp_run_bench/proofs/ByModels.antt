-- What a run comes to on a ground problem goes by the models of its initial formula.
use Rattle.std.proofs.Common.{None, ◌∙◌}
use Rattle.kp_base.specs.declared.ground.Ground.{Ground}
use Rattle.kp_base.specs.declared.ground.Initial.{Initial}
use Rattle.kp_base.specs.declared.ground.TagTable.{TagTable}
use Rattle.kp_base.specs.Entailed.{HaveSameModels}
use Rattle.kp_search.specs.declared.found.Found.{Found}
use Rattle.kp_search.specs.declared.found.Found.TheVariants.{Plan, NoPlan, Spent}
use Rattle.kp_tags.proofs.Public.{coverage_goes_by_models}
use Rattle.kp_law_ktask.specs.Task.{task_of}
use Rattle.kp_run_outcome.specs.declared.outcome.Outcome.{Outcome}
use Rattle.kp_words.specs.Asked.{Asked}
use Rattle.kp_run_inputs.proofs.Public.{by_task_also}
use Rattle.kp_run_solve.specs.Solving.{Searches}
use Rattle.kp_run_solve.proofs.Public.{solved_is_told_by_models as solved_by}
use Rattle.kp_run_bench.specs.Bench.{TellsBench, BenchesGround}

told_by : (c : Asked) (g : Ground) (i j : Initial) (table : TagTable) (o : Outcome) → HaveSameModels i j → (found : Found) → TellsBench c g i table found o → TellsBench c g j table found o
told_by c g i j table o same (Plan ops n) t = record {
  machine = t.machine;
  numbers = t.numbers;
  works = λ s model. t.works s (same s ∙ model);
  uncovered = t.uncovered;
  are_uncovered = coverage_goes_by_models g i j table t.uncovered same t.are_uncovered;
  told = t.told;
}
told_by c g i j table o same NoPlan t = solved_by None g i j table o same NoPlan t
told_by c g i j table o same (Spent n) t = solved_by None g i j table o same (Spent n) t

pub ground_by : (c : Asked) (g : Ground) (i j : Initial) (table : TagTable) (o : Outcome) → HaveSameModels i j → BenchesGround c g i table o → BenchesGround c g j table o
ground_by c g i j table o same h = by_task_also g table (Searches (task_of g table) c.budget (TellsBench c g i table)) (Searches (task_of g table) c.budget (TellsBench c g j table)) o (λ s. record { found = s.found; finds = s.finds; tells = told_by c g i j table o same s.found s.tells }) h
