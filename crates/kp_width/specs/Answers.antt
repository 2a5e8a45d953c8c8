-- What is answered on the width of a ground problem.
use Rattle.std.specs.Prelude.{◌≤◌, ◌<◌, ℕ, List, Result, Ok, Err, length}
use Rattle.kp_base.specs.declared.lit.Lit.{Lit}
use Rattle.kp_base.specs.declared.ground.Ground.{Ground}
use Rattle.kp_base.specs.declared.ground.Initial.{Initial}
use Rattle.kp_base.specs.declared.limits.Limits.{Limits}
use Rattle.kp_base.specs.declared.refused.Stop.{Stop}
use Rattle.kp_base.specs.declared.refused.Stop.TheVariants as stops
use Rattle.kp_base.specs.declared.refused.Refused.{Refused}
use Rattle.kp_base.specs.declared.refused.Refused.TheVariants as refusals
use Rattle.kp_cover.specs.Targets.{AreTargets}
use Rattle.kp_width.specs.declared.report.WidthRow.{WidthRow}
use Rattle.kp_width.specs.declared.report.WidthReport.{WidthReport}
use Rattle.kp_width.specs.declared.report.WidthReport.TheVariants as reports
use Rattle.kp_width.specs.Rows.{IsOver, IsOverfullAt, AreRows, IsTargetReached, row_tags}

-- the report: each target has its row, and there are no more tags than the limit; or the first target without a row has no cover within the bound
pub data IsReport (limits : Limits) (bound : ℕ) (g : Ground) (i : Initial) : WidthReport → Type 0 where
  within : (targets : List Lit) (rows : List WidthRow) → AreTargets g targets → AreRows limits.sets bound g i targets rows → length (row_tags rows) ≤ limits.tags → IsReport limits bound g i (reports.Within rows)
  over : (targets : List Lit) (target : Lit) → AreTargets g targets → IsTargetReached limits.sets bound g i targets target → IsOver limits.sets bound g i target → IsReport limits bound g i (reports.Over target)

-- why there is none: the first target without a row has too many sets of clauses; or each target has its row, and there are too many tags
pub data RefusesWidth (limits : Limits) (bound : ℕ) (g : Ground) (i : Initial) : Refused → Type 0 where
  sets_over : (targets : List Lit) (target : Lit) (size : ℕ) → AreTargets g targets → IsTargetReached limits.sets bound g i targets target → IsOverfullAt limits.sets bound g i target size → RefusesWidth limits bound g i (refusals.SetsOver target size)
  tags_over : (targets : List Lit) (rows : List WidthRow) → AreTargets g targets → AreRows limits.sets bound g i targets rows → limits.tags < length (row_tags rows) → RefusesWidth limits bound g i refusals.TagsOver

-- what is answered
abbrev pub AnswersWidth : Limits → ℕ → Ground → Initial → Result WidthReport Stop → Type 0
AnswersWidth limits bound g i (Ok report) = IsReport limits bound g i report
AnswersWidth limits bound g i (Err (stops.Refused r)) = RefusesWidth limits bound g i r
AnswersWidth limits bound g i (Err stops.Memory) = Unit {0}
