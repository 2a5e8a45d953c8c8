-- What is found of one target, and of one after the other. This file serves proofs alone.
use Rattle.std.specs.Prelude.{◌≡◌, ◌≤◌, ◌<◌, ℕ, Bool, true, false, List, [], ◌∷◌, ◌++◌, Option, Some, None, Result, Ok, Err, length}
use Rattle.kp_base.specs.declared.lit.Lit.{Lit}
use Rattle.kp_base.specs.declared.ground.Ground.{Ground}
use Rattle.kp_base.specs.declared.ground.Initial.{Initial}
use Rattle.kp_base.specs.declared.refused.Stop.{Stop}
use Rattle.kp_base.specs.declared.refused.Stop.TheVariants as stops
use Rattle.kp_base.specs.declared.refused.Refused.TheVariants as refusals
use Rattle.kp_base.specs.Covering.{AreTagsOfClauses}
use Rattle.kp_cover.specs.Covering.{pick}
use Rattle.kp_width.specs.declared.report.WidthRow.{WidthRow}
use Rattle.kp_width.specs.declared.report.WidthReport.{WidthReport}
use Rattle.kp_width.specs.declared.report.WidthReport.TheVariants as reports
use Rattle.kp_width.specs.Rows.{HasLeastCover, HasNoCover, HasTooManySets, IsRowOf, IsOver, IsOverfullAt, AreRows, IsTargetReached, row_tags}

-- the row with the clauses at these places
pub record IsRowAt (i : Initial) (cs : List (List Lit)) (places : List ℕ) (target : Lit) (row : WidthRow) : Type 0 where
  pub same_target : row.target ≡ target
  pub clauses_there : row.clauses ≡ pick cs places
  pub its_tags : AreTagsOfClauses i row.clauses row.tags

-- by the clauses that are relevant to a target
abbrev pub AnswersClauses : ℕ → ℕ → Initial → List (List Lit) → Lit → Result (Option WidthRow) Stop → Type 0
AnswersClauses limit bound i cs target (Ok (Some row)) = (row.target ≡ target) × HasLeastCover limit bound i cs row.clauses row.tags
AnswersClauses limit bound i cs target (Ok None) = HasNoCover limit bound i cs
AnswersClauses limit bound i cs target (Err (stops.Refused r)) = (size : ℕ) × (r ≡ refusals.SetsOver target size) × HasTooManySets limit bound i cs size
AnswersClauses limit bound i cs target (Err stops.Memory) = Unit {0}

-- on a target
abbrev pub AnswersTarget : ℕ → ℕ → Ground → Initial → Lit → Result (Option WidthRow) Stop → Type 0
AnswersTarget limit bound g i target (Ok (Some row)) = IsRowOf limit bound g i target row
AnswersTarget limit bound g i target (Ok None) = IsOver limit bound g i target
AnswersTarget limit bound g i target (Err (stops.Refused r)) = (size : ℕ) × (r ≡ refusals.SetsOver target size) × IsOverfullAt limit bound g i target size
AnswersTarget limit bound g i target (Err stops.Memory) = Unit {0}

-- on a target, where its row goes behind others
abbrev pub AddsTarget : ℕ → ℕ → Ground → Initial → Lit → List WidthRow → List WidthRow → Result Bool Stop → Type 0
AddsTarget limit bound g i target before after (Ok true) = (row : WidthRow) × IsRowOf limit bound g i target row × (after ≡ before ++ row ∷ [])
AddsTarget limit bound g i target before after (Ok false) = IsOver limit bound g i target × (after ≡ before)
AddsTarget limit bound g i target before after (Err (stops.Refused r)) = (size : ℕ) × (r ≡ refusals.SetsOver target size) × IsOverfullAt limit bound g i target size
AddsTarget limit bound g i target before after (Err stops.Memory) = Unit {0}

-- on targets
abbrev pub AnswersTargets : ℕ → ℕ → Ground → Initial → List Lit → Result WidthReport Stop → Type 0
AnswersTargets limit bound g i targets (Ok (reports.Within rows)) = AreRows limit bound g i targets rows
AnswersTargets limit bound g i targets (Ok (reports.Over target)) = IsTargetReached limit bound g i targets target × IsOver limit bound g i target
AnswersTargets limit bound g i targets (Err (stops.Refused r)) = (target : Lit) × (size : ℕ) × (r ≡ refusals.SetsOver target size) × IsTargetReached limit bound g i targets target × IsOverfullAt limit bound g i target size
AnswersTargets limit bound g i targets (Err stops.Memory) = Unit {0}

-- the rows have no more tags than the limit
abbrev pub HasFewTags : ℕ → WidthReport → Type 0
HasFewTags limit (reports.Within rows) = length (row_tags rows) ≤ limit
HasFewTags limit (reports.Over target) = Unit {0}

-- they have more
abbrev pub HasManyTags : ℕ → WidthReport → Type 0
HasManyTags limit (reports.Within rows) = limit < length (row_tags rows)
HasManyTags limit (reports.Over target) = ⊥

-- on the tags of a report
abbrev pub AnswersTags : ℕ → WidthReport → Result WidthReport Stop → Type 0
AnswersTags limit report (Ok same) = (same ≡ report) × HasFewTags limit report
AnswersTags limit report (Err (stops.Refused r)) = (r ≡ refusals.TagsOver) × HasManyTags limit report
AnswersTags limit report (Err stops.Memory) = Unit {0}
