-- What is answered, by what was found.
use Rattle.std.proofs.Common.{◌≡◌, ◌<◌, ◌+◌, ℕ, Bool, true, false, List, Option, Some, None, Result, Ok, Err, take, length, get_or, sym, subst}
use Rattle.std.proofs.lemmas.Bool.{false≢true}
use Rattle.std.specs.Result.{IsErrAnd}
use Rattle.kp_base.specs.declared.lit.Lit.{Lit}
use Rattle.kp_base.specs.declared.ground.Ground.{Ground}
use Rattle.kp_base.specs.declared.ground.Initial.{Initial}
use Rattle.kp_base.specs.declared.limits.Limits.{Limits}
use Rattle.kp_base.specs.declared.refused.Stop.{Stop}
use Rattle.kp_base.specs.declared.refused.Stop.TheVariants as stops
use Rattle.kp_base.specs.Relevance.{AreClausesFor}
use Rattle.kp_cover.specs.Targets.{AreTargets}
use Rattle.kp_width.specs.declared.report.WidthRow.{WidthRow}
use Rattle.kp_width.specs.declared.report.WidthReport.{WidthReport}
use Rattle.kp_width.specs.declared.report.WidthReport.TheVariants as reports
use Rattle.kp_width.specs.Rows.{AreRows, IsOver}
use Rattle.kp_width.specs.Answers.{IsReport, RefusesWidth, AnswersWidth}
use Rattle.kp_width.specs.Found.{AnswersClauses, AnswersTarget, AddsTarget, AnswersTargets, AnswersTags}
use Rattle.kp_width.proofs.InTurn.{next_target, reached}

module _ (limit bound : ℕ) (g : Ground) (i : Initial) where
  -- what the relevant clauses say is said of the target
  pub by_clauses : (t : Lit) (cs : List (List Lit)) → AreClausesFor g.actions (length g.atoms) i t cs → (r : Result (Option WidthRow) Stop) → AnswersClauses limit bound i cs t r → AnswersTarget limit bound g i t r
  by_clauses t cs are (Ok (Some row)) a = record { same_target = a.0; relevant = cs; are_relevant = are; least_cover = a.1 }
  by_clauses t cs are (Ok None) a = record { relevant = cs; are_relevant = are; no_cover = a }
  by_clauses t cs are (Err (stops.Refused r)) a = (a.0, a.1, record { relevant = cs; are_relevant = are; too_many = a.2 })
  by_clauses t cs are (Err stops.Memory) a = tt

  -- a target ends the rows
  cut_off : (ts : List Lit) (k : ℕ) (t : Lit) (rows new : List WidthRow) (stop : Stop) → k < length ts → t ≡ get_or ts k t → AreRows limit bound g i (take k ts) rows → AddsTarget limit bound g i t rows new (Err stop) → AnswersTargets limit bound g i ts (Err stop)
  cut_off ts k t rows new (stops.Refused r) lt is before a = (t, a.0, a.1, reached limit bound g i ts k t rows lt is before, a.2)
  cut_off ts k t rows new stops.Memory lt is before a = tt

  pub cut_off_so : (ts : List Lit) (k : ℕ) (t : Lit) (rows new : List WidthRow) (stop : Stop) (r : Result WidthReport Stop) → k < length ts → t ≡ get_or ts k t → AreRows limit bound g i (take k ts) rows → AddsTarget limit bound g i t rows new (Err stop) → IsErrAnd r (λ e. e ≡ stop) → AnswersTargets limit bound g i ts r
  cut_off_so ts k t rows new stop (Ok x) lt is before a e = absurd e
  cut_off_so ts k t rows new stop (Err s) lt is before a e = subst (λ (x : Stop). AnswersTargets limit bound g i ts (Err x)) (sym e) (cut_off ts k t rows new stop lt is before a)

  -- it has no row
  pub without_row : (t : Lit) (rows new : List WidthRow) (b : Bool) → b ≡ false → AddsTarget limit bound g i t rows new (Ok b) → IsOver limit bound g i t
  without_row t rows new false e a = a.0
  without_row t rows new true e a = absurd (false≢true (sym e))

  -- it has one
  pub with_row : (ts : List Lit) (k : ℕ) (t : Lit) (rows new : List WidthRow) (b : Bool) → k < length ts → t ≡ get_or ts k t → AreRows limit bound g i (take k ts) rows → b ≡ true → AddsTarget limit bound g i t rows new (Ok b) → AreRows limit bound g i (take (k + 1) ts) new
  with_row ts k t rows new true lt is before e a = next_target limit bound g i ts k t rows new a.0 lt is before a.1 a.2
  with_row ts k t rows new false lt is before e a = absurd (false≢true e)

module _ (limits : Limits) (bound : ℕ) (g : Ground) (i : Initial) (all ts : List Lit) (of_all : AreTargets g all) (same : ts ≡ all) where
  are : AreTargets g ts
  are = subst (AreTargets g) (sym same) of_all

  -- a target is refused
  refused : (stop : Stop) → AnswersTargets limits.sets bound g i ts (Err stop) → AnswersWidth limits bound g i (Err stop)
  refused (stops.Refused r) a = subst (RefusesWidth limits bound g i) (sym a.2) (RefusesWidth.sets_over ts a.0 a.1 are a.3 a.4)
  refused stops.Memory a = tt

  pub refused_so : (stop : Stop) (r : Result WidthReport Stop) → AnswersTargets limits.sets bound g i ts (Err stop) → IsErrAnd r (λ e. e ≡ stop) → AnswersWidth limits bound g i r
  refused_so stop (Ok x) a e = absurd e
  refused_so stop (Err s) a e = subst (λ (x : Stop). AnswersWidth limits bound g i (Err x)) (sym e) (refused stop a)

  -- no target is
  pub reported : (report : WidthReport) → AnswersTargets limits.sets bound g i ts (Ok report) → (r : Result WidthReport Stop) → AnswersTags limits.tags report r → AnswersWidth limits bound g i r
  reported (reports.Within rows) a (Ok x) b = subst (IsReport limits bound g i) (sym b.0) (IsReport.within ts rows are a b.1)
  reported (reports.Over t) a (Ok x) b = subst (IsReport limits bound g i) (sym b.0) (IsReport.over ts t are a.0 a.1)
  reported (reports.Within rows) a (Err (stops.Refused r)) b = subst (RefusesWidth limits bound g i) (sym b.0) (RefusesWidth.tags_over ts rows are a b.1)
  reported (reports.Over t) a (Err (stops.Refused r)) b = absurd b.1
  reported (reports.Within rows) a (Err stops.Memory) b = tt
  reported (reports.Over t) a (Err stops.Memory) b = tt
