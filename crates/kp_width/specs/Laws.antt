-- Laws of widths.
use Rattle.std.specs.Prelude.{◌≡◌, ◌≤◌, ◌<◌, ◌⊎◌, ℕ, List, length}
use Rattle.kp_base.specs.declared.lit.Lit.{Lit}
use Rattle.kp_base.specs.declared.ground.Ground.{Ground}
use Rattle.kp_base.specs.declared.ground.Initial.{Initial}
use Rattle.kp_base.specs.declared.limits.Limits.{Limits}
use Rattle.kp_base.specs.declared.refused.Refused.{Refused}
use Rattle.kp_base.specs.Planning.{Member, HaveSameModels, AreTagsOfClauses, AllMeet, IsTarget, AreClausesFor}
use Rattle.kp_cover.specs.Targets.{AreTargets}
use Rattle.kp_width.specs.declared.report.WidthRow.{WidthRow}
use Rattle.kp_width.specs.declared.report.WidthReport.{WidthReport}
use Rattle.kp_width.specs.declared.report.WidthReport.TheVariants as reports
use Rattle.kp_width.specs.Width.{CoversTarget, HasWidth, IsAsWide}
use Rattle.kp_width.specs.Rows.{IsRowOf, IsOver, greatest_width}
use Rattle.kp_width.specs.Answers.{IsReport, RefusesWidth}

-- ---- the rows are right

-- the clauses of a row cover its target, and are as many as the width
pub record IsRightRow (g : Ground) (i : Initial) (target : Lit) (row : WidthRow) : Type 0 where
  pub covers : CoversTarget g i target row.clauses row.tags
  pub width : HasWidth g i target (length row.clauses)

-- each row is so
abbrev pub RowsHaveTheWidth : Type 0
RowsHaveTheWidth = (limit bound : ℕ) (g : Ground) (i : Initial) (target : Lit) (row : WidthRow) → IsRowOf limit bound g i target row → IsRightRow g i target row

-- where each target has its row, the problem is as wide as the greatest of the rows
abbrev pub ReportsHaveTheWidth : Type 0
ReportsHaveTheWidth = (limits : Limits) (bound : ℕ) (g : Ground) (i : Initial) (rows : List WidthRow) → IsReport limits bound g i (reports.Within rows) → IsAsWide g i (greatest_width rows)

-- clauses that cover a target without a cover within the bound are more than the bound
abbrev pub CoversOverAreMoreThanBound : Type 0
CoversOverAreMoreThanBound = (limit bound : ℕ) (g : Ground) (i : Initial) (target : Lit) (clauses tags : List (List Lit)) → IsOver limit bound g i target → CoversTarget g i target clauses tags → bound < length clauses

-- ---- there is an answer

-- what the width is made of is known: the targets, the clauses that are relevant to each, the tags of clauses, and whether tags meet clauses
pub record IsKnown (g : Ground) (i : Initial) : Type 0 where
  pub targets : List Lit
  pub are_targets : AreTargets g targets
  pub clauses : (target : Lit) → Member targets target → (cs : List (List Lit)) × AreClausesFor g.actions (length g.atoms) i target cs
  pub tags : (cs : List (List Lit)) → (ts : List (List Lit)) × AreTagsOfClauses i cs ts
  pub meeting : (ts cs : List (List Lit)) → AllMeet i ts cs ⊎ (AllMeet i ts cs → ⊥)

-- the target has a width, and it is at most the number of the clauses that are relevant to it
pub record HasSomeWidth (g : Ground) (i : Initial) (target : Lit) : Type 0 where
  pub relevant : List (List Lit)
  pub are_relevant : AreClausesFor g.actions (length g.atoms) i target relevant
  pub width : ℕ
  pub has_width : HasWidth g i target width
  pub at_most : width ≤ length relevant

-- then it is so of each target
abbrev pub EveryTargetHasAWidth : Type 0
EveryTargetHasAWidth = (g : Ground) (i : Initial) → IsKnown g i → (target : Lit) → IsTarget g target → HasSomeWidth g i target

-- the target has a width, and it is above the bound
pub record IsWider (bound : ℕ) (g : Ground) (i : Initial) (target : Lit) : Type 0 where
  pub width : ℕ
  pub has_width : HasWidth g i target width
  pub above : bound < width

-- it is so of a target without a cover within the bound
abbrev pub TargetsOverAreWider : Type 0
TargetsOverAreWider = (limit bound : ℕ) (g : Ground) (i : Initial) (target : Lit) → IsKnown g i → IsOver limit bound g i target → IsWider bound g i target

-- and there is a report, or a refusal
abbrev pub KnownProblemsAreAnswered : Type 0
KnownProblemsAreAnswered = (limits : Limits) (bound : ℕ) (g : Ground) (i : Initial) → IsKnown g i → ((report : WidthReport) × IsReport limits bound g i report) ⊎ ((r : Refused) × RefusesWidth limits bound g i r)

-- ---- there is one answer

-- two answers are the same: the same report, or the same refusal
pub record HasOneAnswer (limits : Limits) (bound : ℕ) (g : Ground) (i j : Initial) : Type 0 where
  pub reports : (a b : WidthReport) → IsReport limits bound g i a → IsReport limits bound g j b → a ≡ b
  pub refusals : (r s : Refused) → RefusesWidth limits bound g i r → RefusesWidth limits bound g j s → r ≡ s
  pub never_both : (a : WidthReport) (r : Refused) → IsReport limits bound g i a → RefusesWidth limits bound g j r → ⊥

-- so it is with the formulas that have the same models
abbrev pub ProblemsHaveOneWidth : Type 0
ProblemsHaveOneWidth = (limits : Limits) (bound : ℕ) (g : Ground) (i j : Initial) → HaveSameModels i j → HasOneAnswer limits bound g i j
