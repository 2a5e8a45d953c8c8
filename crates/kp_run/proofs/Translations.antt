-- What a ground problem is translated to, from what the code finds.
use Rattle.std.proofs.Common.{◌≡◌, List, Result, Ok, Err, IfOk}
use Rattle.kp_base.specs.declared.lit.Lit.{Lit}
use Rattle.kp_base.specs.declared.memory.Memory.{Memory}
use Rattle.kp_base.specs.declared.ground.Ground.{Ground}
use Rattle.kp_base.specs.declared.ground.Initial.{Initial}
use Rattle.kp_base.specs.declared.ground.TagTable.{TagTable}
use Rattle.kp_base.specs.Covering.{AreUncovered}
use Rattle.kp_base.specs.Entailed.{HaveSameModels}
use Rattle.kp_tags.proofs.Public.{coverage_goes_by_models}
use Rattle.kp_run_outcome.specs.declared.outcome.Outcome.{Outcome}
use Rattle.kp_words.specs.Asked.{Asked}
use Rattle.kp_run_inputs.proofs.Public.{by_task_also}
use Rattle.kp_run.specs.Translate.{translates, IsPut, TranslatesGround}

-- what is put, and told of targets
pub table_put : (c : Asked) (g : Ground) (i : Initial) (table : TagTable) (ls : List Lit) (r : Result Outcome Memory) → AreUncovered g i table ls → IfOk r (λ o. o ≡ translates c g table ls) → IfOk r (IsPut c g i table)
table_put c g i table ls (Ok o) are is = record { uncovered = ls; are = are; outcome = is }
table_put c g i table ls (Err m) are is = tt

-- which targets aren't covered goes by the models
pub ground_by : (c : Asked) (g : Ground) (i j : Initial) (table : TagTable) (o : Outcome) → HaveSameModels i j → TranslatesGround c g i table o → TranslatesGround c g j table o
ground_by c g i j table o same h = by_task_also g table (IsPut c g i table) (IsPut c g j table) o (λ put. record { uncovered = put.uncovered; are = coverage_goes_by_models g i j table put.uncovered same put.are; outcome = put.outcome }) h
