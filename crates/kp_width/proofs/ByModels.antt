-- What is said of widths goes by the models alone.
use Rattle.std.proofs.Common.{◌+◌, ℕ, List, length, sym, ◌∙◌}
use Rattle.kp_base.specs.declared.lit.Lit.{Lit}
use Rattle.kp_base.specs.declared.ground.Ground.{Ground}
use Rattle.kp_base.specs.declared.ground.Initial.{Initial}
use Rattle.kp_base.specs.declared.ground.Action.{Action}
use Rattle.kp_base.specs.declared.limits.Limits.{Limits}
use Rattle.kp_base.specs.declared.refused.Refused.{Refused}
use Rattle.kp_base.specs.Planning.{IsConsistent, HaveSameModels, IsImplicate, IsCandidate, AreClausesFor, AreTagsOfClauses}
use Rattle.kp_cover_subsets.specs.Subsets.{subsets}
use Rattle.kp_cover.specs.Covering.{IsCover}
use Rattle.kp_width.specs.declared.report.WidthRow.{WidthRow}
use Rattle.kp_width.specs.declared.report.WidthReport.{WidthReport}
use Rattle.kp_width.specs.Rows.{NoneCovers, IsFirstCover, AreSizesPassed, IsRowOf, IsOver, IsOverfullAt, AreRows, IsTargetReached}
use Rattle.kp_width.specs.Answers.{IsReport, RefusesWidth}

pub back : (i j : Initial) → HaveSameModels i j → HaveSameModels j i
back i j same s = sym (same s)

-- ---- clauses

consistent : (i j : Initial) → HaveSameModels i j → (t : List Lit) → IsConsistent i t → IsConsistent j t
consistent i j same t c = record { state = c.state; model = sym (same c.state) ∙ c.model; all_true = c.all_true }

implicate : (i j : Initial) → HaveSameModels i j → (c : List Lit) → IsImplicate i c → IsImplicate j c
implicate i j same c h = record { proper = h.proper; holds_always = λ s m. h.holds_always s (same s ∙ m) }

candidate : (i j : Initial) → HaveSameModels i j → (n : ℕ) (c : List Lit) → IsCandidate n i c → IsCandidate n j c
candidate i j same n c (IsCandidate.implicate _ prime more) = IsCandidate.implicate c (record {
  ascending = prime.ascending;
  implicate = implicate i j same c prime.implicate;
  least = λ d h. prime.least d (implicate j i (back i j same) d h);
}) more
candidate i j same n _ (IsCandidate.unsettled p lt differ) = IsCandidate.unsettled p lt (λ one. differ (λ s t m k. one s t (sym (same s) ∙ m) (sym (same t) ∙ k)))

clauses : (i j : Initial) → HaveSameModels i j → (acts : List Action) (n : ℕ) (t : Lit) (cs : List (List Lit)) → AreClausesFor acts n i t cs → AreClausesFor acts n j t cs
clauses i j same acts n t cs are = record {
  exact = λ c. (
    λ m. let h = (are.exact c).0 m in record { candidate = candidate i j same n c h.candidate; relevant = h.relevant },
    λ h. (are.exact c).1 (record { candidate = candidate j i (back i j same) n c h.candidate; relevant = h.relevant }),
  );
  once = are.once;
  in_order = are.in_order;
}

-- ---- covers

cov : (i j : Initial) → HaveSameModels i j → (cs tags : List (List Lit)) → AreTagsOfClauses i cs tags → AreTagsOfClauses j cs tags
cov i j same cs tags h = record { test = h.test; tells = λ t. (λ e. consistent i j same t ((h.tells t).0 e), λ c. (h.tells t).1 (consistent j i (back i j same) t c)); are = h.are }

cover : (i j : Initial) → HaveSameModels i j → (cs set tags : List (List Lit)) → IsCover i cs set tags → IsCover j cs set tags
cover i j same cs set tags h = record {
  are = cov i j same set tags h.are;
  cover = λ t c m k. let q = h.cover t c m k in record { lit = q.lit; of_clause = q.of_clause; entailed = λ s model. q.entailed s (same s ∙ model) };
}

none : (i j : Initial) → HaveSameModels i j → (cs : List (List Lit)) (sets : List (List (List Lit))) → NoneCovers i cs sets → NoneCovers j cs sets
none i j same cs sets h set tags m c = h set tags m (cover j i (back i j same) cs set tags c)

passed : (i j : Initial) → HaveSameModels i j → (limit : ℕ) (cs : List (List Lit)) (size : ℕ) → AreSizesPassed limit i cs size → AreSizesPassed limit j cs size
passed i j same limit cs size h = record { few = h.few; none_covers = λ v below. none i j same cs (subsets v cs) (h.none_covers v below) }

first : (i j : Initial) → HaveSameModels i j → (cs : List (List Lit)) (sets : List (List (List Lit))) (set tags : List (List Lit)) → IsFirstCover i cs sets set tags → IsFirstCover j cs sets set tags
first i j same cs sets set tags h = record { earlier = h.earlier; later = h.later; among = h.among; covers = cover i j same cs set tags h.covers; none_earlier = none i j same cs h.earlier h.none_earlier }

-- ---- targets

module _ (i j : Initial) (same : HaveSameModels i j) (g : Ground) (bound : ℕ) where
  module _ (limit : ℕ) where
    row_by : (t : Lit) (row : WidthRow) → IsRowOf limit bound g i t row → IsRowOf limit bound g j t row
    row_by t row h =
        let l = h.least_cover in
        record {
          same_target = h.same_target;
          relevant = h.relevant;
          are_relevant = clauses i j same g.actions (length g.atoms) t h.relevant h.are_relevant;
          least_cover = record { in_bound = l.in_bound; few = l.few; first = first i j same h.relevant (subsets (length row.clauses) h.relevant) row.clauses row.tags l.first; passed = passed i j same limit h.relevant (length row.clauses) l.passed };
        }

    over_by : (t : Lit) → IsOver limit bound g i t → IsOver limit bound g j t
    over_by t h = record {
      relevant = h.relevant;
      are_relevant = clauses i j same g.actions (length g.atoms) t h.relevant h.are_relevant;
      no_cover = passed i j same limit h.relevant (bound + 1) h.no_cover;
    }

    refused_by : (t : Lit) (size : ℕ) → IsOverfullAt limit bound g i t size → IsOverfullAt limit bound g j t size
    refused_by t size h = record {
      relevant = h.relevant;
      are_relevant = clauses i j same g.actions (length g.atoms) t h.relevant h.are_relevant;
      too_many = record { in_bound = h.too_many.in_bound; many = h.too_many.many; passed = passed i j same limit h.relevant size h.too_many.passed };
    }

    rows_by : (ts : List Lit) (rows : List WidthRow) → AreRows limit bound g i ts rows → AreRows limit bound g j ts rows
    rows_by _ _ AreRows.done = AreRows.done
    rows_by _ _ (AreRows.more t ts row rows here others) = AreRows.more t ts row rows (row_by t row here) (rows_by ts rows others)

    reached_by : (ts : List Lit) (t : Lit) → IsTargetReached limit bound g i ts t → IsTargetReached limit bound g j ts t
    reached_by ts t h = record { earlier = h.earlier; later = h.later; among = h.among; rows = h.rows; are_rows = rows_by h.earlier h.rows h.are_rows }

  pub report_by : (limits : Limits) (r : WidthReport) → IsReport limits bound g i r → IsReport limits bound g j r
  report_by limits _ (IsReport.within ts rows are h few) = IsReport.within ts rows are (rows_by limits.sets ts rows h) few
  report_by limits _ (IsReport.over ts t are h o) = IsReport.over ts t are (reached_by limits.sets ts t h) (over_by limits.sets t o)

  pub refusal_by : (limits : Limits) (r : Refused) → RefusesWidth limits bound g i r → RefusesWidth limits bound g j r
  refusal_by limits _ (RefusesWidth.sets_over ts t size are h q) = RefusesWidth.sets_over ts t size are (reached_by limits.sets ts t h) (refused_by limits.sets t size q)
  refusal_by limits _ (RefusesWidth.tags_over ts rows are h many) = RefusesWidth.tags_over ts rows are (rows_by limits.sets ts rows h) many
