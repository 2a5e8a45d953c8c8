-- The greatest of the rows is the width of the problem.
use Rattle.std.proofs.Common.{◌≡◌, ◌≤◌, ◌<◌, ◌⊎◌, ℕ, List, ◌∷◌, length, max, refl, sym, subst, inl, inr, arith}
use Rattle.std.proofs.Math.Nat.{le-max_left, le-max_right, max-eq_left, max-eq_right}
use Rattle.std.proofs.lemmas.Bool.{cases_lt}
use Rattle.kp_base.specs.declared.lit.Lit.{Lit}
use Rattle.kp_base.specs.declared.ground.Ground.{Ground}
use Rattle.kp_base.specs.declared.ground.Initial.{Initial}
use Rattle.kp_base.specs.Lists.{Member}
use Rattle.kp_width.specs.declared.report.WidthRow.{WidthRow}
use Rattle.kp_width.specs.declared.report.WidthReport.{WidthReport}
use Rattle.kp_width.specs.declared.report.WidthReport.TheVariants as reports
use Rattle.kp_width.specs.Width.{HasWidth, IsAsWide}
use Rattle.kp_width.specs.Rows.{AreRows, greatest_width}
use Rattle.kp_width.specs.Answers.{IsReport}
use Rattle.kp_width.specs.Laws.{ReportsHaveTheWidth}
use Rattle.kp_width.proofs.Right.{rows_right}

module _ (limit bound : ℕ) (g : Ground) (i : Initial) where
  -- each of these targets has a width that is no greater
  each_of : (ts : List Lit) (rows : List WidthRow) → AreRows limit bound g i ts rows → (t : Lit) → Member ts t → (w : ℕ) × HasWidth g i t w × (w ≤ greatest_width rows)
  each_of _ _ AreRows.done t m = absurd m
  each_of _ _ (AreRows.more u us row rows here others) t m = elim m [
    | inl e ↦ (length row.clauses, subst (λ z. HasWidth g i z (length row.clauses)) e (rows_right limit bound g i u row here).width, le-max_left (length row.clauses) (greatest_width rows))
    | inr k ↦
        let r = each_of us rows others t k in
        let le = r.2 in
        let most = le-max_right (length row.clauses) (greatest_width rows) in
        (r.0, r.1, omega (arith, le, most))
  ]

  -- and one of them has just this width
  some_of : (ts : List Lit) (rows : List WidthRow) → AreRows limit bound g i ts rows → (greatest_width rows ≡ 0) ⊎ ((t : Lit) × Member ts t × HasWidth g i t (greatest_width rows))
  some_of _ _ AreRows.done = inl refl
  some_of _ _ (AreRows.more u us row rows here others) = elim (cases_lt (length row.clauses) (greatest_width rows)) [
    | inr le ↦ inr (u, inl refl, subst (HasWidth g i u) (sym (max-eq_left le)) (rows_right limit bound g i u row here).width)
    | inl lt ↦ by (max-eq_right (omega (arith, lt))) lt (some_of us rows others)
  ]
    where
      by : max (length row.clauses) (greatest_width rows) ≡ greatest_width rows → length row.clauses < greatest_width rows → (greatest_width rows ≡ 0) ⊎ ((t : Lit) × Member us t × HasWidth g i t (greatest_width rows))
          → (max (length row.clauses) (greatest_width rows) ≡ 0) ⊎ ((t : Lit) × Member (u ∷ us) t × HasWidth g i t (max (length row.clauses) (greatest_width rows)))
      by same lt (inl zero) = absurd (omega (arith, lt, zero))
      by same lt (inr (t, m, h)) = inr (t, inr m, subst (HasWidth g i t) (sym same) h)

pub reports_right : ReportsHaveTheWidth
reports_right limits bound g i rows report = go (reports.Within rows) report refl
  where
    go : (r : WidthReport) → IsReport limits bound g i r → r ≡ reports.Within rows → IsAsWide g i (greatest_width rows)
    go _ (IsReport.within ts others are h few) e = by (let f : others ≡ rows = cc in subst (AreRows limits.sets bound g i ts) f h)
      where
        by : AreRows limits.sets bound g i ts rows → IsAsWide g i (greatest_width rows)
        by h = record {
          each = λ t is. each_of limits.sets bound g i ts rows h t ((are.exact t).1 is);
          some = elim (some_of limits.sets bound g i ts rows h) [
            | inl zero ↦ inl zero
            | inr (t, m, w) ↦ inr (t, (are.exact t).0 m, w)
          ];
        }
    go _ (IsReport.over ts t are h o) e = absurd cc
