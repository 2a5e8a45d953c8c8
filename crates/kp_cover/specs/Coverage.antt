-- What is answered on the coverage of a table.
use Rattle.std.specs.Prelude.{◌≡◌, ◌↔◌, [], true}
use Rattle.kp_base.specs.declared.ground.Ground.{Ground}
use Rattle.kp_base.specs.declared.ground.Initial.{Initial}
use Rattle.kp_base.specs.declared.ground.TagTable.{TagTable}
use Rattle.kp_base.specs.Covering.{IsComplete, AreUncovered}
use Rattle.kp_cover.specs.declared.answer.Coverage.{Coverage}

-- just the uncovered targets; and whether the table is complete, which is so where there are none
pub record AnswersCoverage (g : Ground) (i : Initial) (table : TagTable) (c : Coverage) : Type 0 where
  pub uncovered : AreUncovered g i table c.uncovered
  pub complete : (c.complete ≡ true) ↔ IsComplete g i table
  pub none : (c.complete ≡ true) ↔ (c.uncovered ≡ [])
