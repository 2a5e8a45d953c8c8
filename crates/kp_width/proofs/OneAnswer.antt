-- There is one answer on the width of a ground problem.
use Rattle.std.proofs.Common.{◌≡◌, ◌++◌, ℕ, List, [], ◌∷◌, length, refl, sym, ap, ap₂, subst, ◌∙◌, arith}
use Rattle.kp_base.specs.declared.lit.Lit.{Lit}
use Rattle.kp_base.specs.declared.ground.Ground.{Ground}
use Rattle.kp_base.specs.declared.ground.Initial.{Initial}
use Rattle.kp_base.specs.declared.limits.Limits.{Limits}
use Rattle.kp_base.specs.declared.refused.Refused.{Refused}
use Rattle.kp_base.specs.declared.refused.Refused.TheVariants as refusals
use Rattle.kp_base.specs.Covering.{AreTagsOfClauses}
use Rattle.kp_base.proofs.Lists.{member_contains, contains_member}
use Rattle.kp_base.proofs.Ascending.{same_members}
use Rattle.kp_relevance.proofs.Public.{one_clauses_for}
use Rattle.kp_cover.specs.Targets.{AreTargets}
use Rattle.kp_cover.proofs.Public.{cov_once}
use Rattle.kp_width.specs.declared.report.WidthRow.{WidthRow}
use Rattle.kp_width.specs.declared.report.WidthReport.{WidthReport}
use Rattle.kp_width.specs.declared.report.WidthReport.TheVariants as reports
use Rattle.kp_width.specs.Rows.{HasLeastCover, HasNoCover, HasTooManySets, IsRowOf, IsOver, IsOverfullAt, AreRows, IsTargetReached, row_tags}
use Rattle.kp_width.specs.Answers.{IsReport, RefusesWidth}
use Rattle.kp_width.specs.Laws.{ProblemsHaveOneWidth}
use Rattle.kp_width.proofs.ByModels.{back, report_by, refusal_by}
use Rattle.kp_width.proofs.OneSearch.{one_set, one_size, not_many, not_none, never_refused}

-- ---- targets

module _ (limit bound : ℕ) (g : Ground) (i : Initial) where
  one_row : (t : Lit) (a b : WidthRow) → IsRowOf limit bound g i t a → IsRowOf limit bound g i t b → a ≡ b
  one_row t a b p q =
      let e = one_clauses_for g.actions (length g.atoms) i t q.relevant p.relevant q.are_relevant p.are_relevant in
      let l = subst (λ (cs : List (List Lit)). HasLeastCover limit bound i cs b.clauses b.tags) e q.least_cover in
      let set = one_set i p.relevant limit bound a.clauses b.clauses a.tags b.tags p.least_cover l in
      let tags = cov_once i i a.clauses a.tags b.tags (λ s. refl) p.least_cover.first.covers.are (subst (λ (z : List (List Lit)). AreTagsOfClauses i z b.tags) (sym set) l.first.covers.are) in
      ap (λ (u : Lit). let row : WidthRow = record { target = u; clauses = a.clauses; tags = a.tags } in row) (p.same_target ∙ sym q.same_target)
      ∙ ap₂ (λ (x y : List (List Lit)). let row : WidthRow = record { target = b.target; clauses = x; tags = y } in row) set tags

  not_over : (t : Lit) (row : WidthRow) → IsRowOf limit bound g i t row → IsOver limit bound g i t → ⊥
  not_over t row p q =
      let e = one_clauses_for g.actions (length g.atoms) i t q.relevant p.relevant q.are_relevant p.are_relevant in
      not_none i p.relevant limit bound row.clauses row.tags p.least_cover (subst (λ (cs : List (List Lit)). HasNoCover limit bound i cs) e q.no_cover)

  not_refused : (t : Lit) (row : WidthRow) (size : ℕ) → IsRowOf limit bound g i t row → IsOverfullAt limit bound g i t size → ⊥
  not_refused t row size p q =
      let e = one_clauses_for g.actions (length g.atoms) i t q.relevant p.relevant q.are_relevant p.are_relevant in
      not_many i p.relevant limit bound row.clauses row.tags size p.least_cover (subst (λ (cs : List (List Lit)). HasTooManySets limit bound i cs size) e q.too_many)

  not_over_refused : (t : Lit) (size : ℕ) → IsOver limit bound g i t → IsOverfullAt limit bound g i t size → ⊥
  not_over_refused t size p q =
      let e = one_clauses_for g.actions (length g.atoms) i t q.relevant p.relevant q.are_relevant p.are_relevant in
      never_refused i p.relevant limit bound size p.no_cover (subst (λ (cs : List (List Lit)). HasTooManySets limit bound i cs size) e q.too_many)

  one_refused : (t : Lit) (a b : ℕ) → IsOverfullAt limit bound g i t a → IsOverfullAt limit bound g i t b → a ≡ b
  one_refused t a b p q =
      let e = one_clauses_for g.actions (length g.atoms) i t q.relevant p.relevant q.are_relevant p.are_relevant in
      one_size i p.relevant limit bound a b p.too_many (subst (λ (cs : List (List Lit)). HasTooManySets limit bound i cs b) e q.too_many)

  -- ---- one after the other

  one_rows : (ts : List Lit) (a b : List WidthRow) → AreRows limit bound g i ts a → AreRows limit bound g i ts b → a ≡ b
  one_rows _ _ _ AreRows.done AreRows.done = refl
  one_rows _ _ _ (AreRows.more t ts x a p others) (AreRows.more _ _ y b q rest) = ap₂ (λ (r : WidthRow) (rs : List WidthRow). r ∷ rs) (one_row t x y p q) (one_rows ts a b others rest)

  -- the first target has the first row
  head_row : (us : List Lit) (rows : List WidthRow) → AreRows limit bound g i us rows → (t : Lit) (ts : List Lit) → us ≡ t ∷ ts → (row : WidthRow) × (rest : List WidthRow) × IsRowOf limit bound g i t row × AreRows limit bound g i ts rest
  head_row _ _ AreRows.done t ts e = absurd (cc e)
  head_row _ _ (AreRows.more u us row rows here others) t ts e =
      let first : u ≡ t = cc e in
      let later : us ≡ ts = cc e in
      (row, rows, subst (λ (x : Lit). IsRowOf limit bound g i x row) first here, subst (λ (xs : List Lit). AreRows limit bound g i xs rows) later others)

  -- where all targets have rows, each has one
  has_row : (front : List Lit) (t : Lit) (later : List Lit) (rows : List WidthRow) → AreRows limit bound g i (front ++ t ∷ later) rows → (row : WidthRow) × IsRowOf limit bound g i t row
  has_row [] t later rows h = let q = head_row (t ∷ later) rows h t later refl in (q.0, q.2)
  has_row (u ∷ front) t later rows h = let q = head_row (u ∷ front ++ t ∷ later) rows h u (front ++ t ∷ later) refl in has_row front t later q.1 q.3

  abbrev NoRow : Lit → Type 0
  NoRow t = (row : WidthRow) → IsRowOf limit bound g i t row → ⊥

  first_without : (f e : List Lit) (t u : Lit) (l m : List Lit) (rows others : List WidthRow) → f ++ t ∷ l ≡ e ++ u ∷ m → AreRows limit bound g i f rows → AreRows limit bound g i e others → NoRow t → NoRow u → t ≡ u
  first_without [] [] t u l m rows others is a b miss lack = cc is
  first_without [] (v ∷ e) t u l m rows others is a b miss lack =
      let q = head_row (v ∷ e) others b v e refl in
      let same : v ≡ t = cc is in
      absurd (miss q.0 (subst (λ (x : Lit). IsRowOf limit bound g i x q.0) same q.2))
  first_without (v ∷ f) [] t u l m rows others is a b miss lack =
      let q = head_row (v ∷ f) rows a v f refl in
      let same : v ≡ u = cc is in
      absurd (lack q.0 (subst (λ (x : Lit). IsRowOf limit bound g i x q.0) same q.2))
  first_without (v ∷ f) (w ∷ e) t u l m rows others is a b miss lack =
      let p = head_row (v ∷ f) rows a v f refl in
      let q = head_row (w ∷ e) others b w e refl in
      let rest : f ++ t ∷ l ≡ e ++ u ∷ m = cc is in
      first_without f e t u l m p.1 q.1 rest p.3 q.3 miss lack

  -- one target is reached that has no row
  one_reached : (ts : List Lit) (t u : Lit) → IsTargetReached limit bound g i ts t → IsTargetReached limit bound g i ts u → NoRow t → NoRow u → t ≡ u
  one_reached ts t u a b miss lack = first_without a.earlier b.earlier t u a.later b.later a.rows b.rows (sym a.among ∙ b.among) a.are_rows b.are_rows miss lack

  -- none is where all have rows
  none_reached : (ts : List Lit) (rows : List WidthRow) (t : Lit) → AreRows limit bound g i ts rows → IsTargetReached limit bound g i ts t → NoRow t → ⊥
  none_reached ts rows t a b miss = let q = has_row b.earlier t b.later rows (subst (λ (xs : List Lit). AreRows limit bound g i xs rows) b.among a) in miss q.0 q.1

-- ---- the whole

one_targets : (g : Ground) (ts us : List Lit) → AreTargets g ts → AreTargets g us → ts ≡ us
one_targets g ts us a b = same_members ts us a.ascending b.ascending
    (λ l m. member_contains us l ((b.exact l).1 ((a.exact l).0 (contains_member ts l m))))
    (λ l m. member_contains ts l ((a.exact l).1 ((b.exact l).0 (contains_member us l m))))

module _ (limits : Limits) (bound : ℕ) (g : Ground) (i : Initial) where
  rows_for : (ts us : List Lit) (rows : List WidthRow) → AreTargets g ts → AreTargets g us → AreRows limits.sets bound g i us rows → AreRows limits.sets bound g i ts rows
  rows_for ts us rows a b h = subst (λ (xs : List Lit). AreRows limits.sets bound g i xs rows) (one_targets g us ts b a) h

  reached_for : (ts us : List Lit) (t : Lit) → AreTargets g ts → AreTargets g us → IsTargetReached limits.sets bound g i us t → IsTargetReached limits.sets bound g i ts t
  reached_for ts us t a b h = subst (λ (xs : List Lit). IsTargetReached limits.sets bound g i xs t) (one_targets g us ts b a) h

  over_no_row : (t : Lit) → IsOver limits.sets bound g i t → NoRow limits.sets bound g i t
  over_no_row t o row h = not_over limits.sets bound g i t row h o

  refused_no_row : (t : Lit) (size : ℕ) → IsOverfullAt limits.sets bound g i t size → NoRow limits.sets bound g i t
  refused_no_row t size o row h = not_refused limits.sets bound g i t row size h o

  one_report : (a b : WidthReport) → IsReport limits bound g i a → IsReport limits bound g i b → a ≡ b
  one_report _ _ (IsReport.within ts a are p few) (IsReport.within us b also q less) = ap reports.Within (one_rows limits.sets bound g i ts a b p (rows_for ts us b are also q))
  one_report _ _ (IsReport.within ts a are p few) (IsReport.over us u also q o) = absurd (none_reached limits.sets bound g i ts a u p (reached_for ts us u are also q) (over_no_row u o))
  one_report _ _ (IsReport.over ts t are p o) (IsReport.within us b also q less) = absurd (none_reached limits.sets bound g i ts b t (rows_for ts us b are also q) p (over_no_row t o))
  one_report _ _ (IsReport.over ts t are p o) (IsReport.over us u also q s) = ap reports.Over (one_reached limits.sets bound g i ts t u p (reached_for ts us u are also q) (over_no_row t o) (over_no_row u s))

  one_refusal : (r s : Refused) → RefusesWidth limits bound g i r → RefusesWidth limits bound g i s → r ≡ s
  one_refusal _ _ (RefusesWidth.sets_over ts t a are p o) (RefusesWidth.sets_over us u b also q s) =
      let e = one_reached limits.sets bound g i ts t u p (reached_for ts us u are also q) (refused_no_row t a o) (refused_no_row u b s) in
      ap₂ refusals.SetsOver e (one_refused limits.sets bound g i t a b o (subst (λ (x : Lit). IsOverfullAt limits.sets bound g i x b) (sym e) s))
  one_refusal _ _ (RefusesWidth.sets_over ts t a are p o) (RefusesWidth.tags_over us b also q many) = absurd (none_reached limits.sets bound g i ts b t (rows_for ts us b are also q) p (refused_no_row t a o))
  one_refusal _ _ (RefusesWidth.tags_over ts a are p many) (RefusesWidth.sets_over us u b also q s) = absurd (none_reached limits.sets bound g i ts a u p (reached_for ts us u are also q) (refused_no_row u b s))
  one_refusal _ _ (RefusesWidth.tags_over ts a are p many) (RefusesWidth.tags_over us b also q more) = refl

  never_both : (a : WidthReport) (r : Refused) → IsReport limits bound g i a → RefusesWidth limits bound g i r → ⊥
  never_both _ _ (IsReport.within ts a are p few) (RefusesWidth.sets_over us u b also q s) = none_reached limits.sets bound g i ts a u p (reached_for ts us u are also q) (refused_no_row u b s)
  never_both _ _ (IsReport.within ts a are p few) (RefusesWidth.tags_over us b also q many) =
      let e = one_rows limits.sets bound g i ts a b p (rows_for ts us b are also q) in
      absurd (omega (arith, few, many, ap (λ (rs : List WidthRow). length (row_tags rs)) e))
  never_both _ _ (IsReport.over ts t are p o) (RefusesWidth.sets_over us u b also q s) =
      let e = one_reached limits.sets bound g i ts t u p (reached_for ts us u are also q) (over_no_row t o) (refused_no_row u b s) in
      not_over_refused limits.sets bound g i t b o (subst (λ (x : Lit). IsOverfullAt limits.sets bound g i x b) (sym e) s)
  never_both _ _ (IsReport.over ts t are p o) (RefusesWidth.tags_over us b also q many) = none_reached limits.sets bound g i ts b t (rows_for ts us b are also q) p (over_no_row t o)

pub one_width : ProblemsHaveOneWidth
one_width limits bound g i j same = record {
  reports = λ a b p q. one_report limits bound g i a b p (report_by j i (back i j same) g bound limits b q);
  refusals = λ r s p q. one_refusal limits bound g i r s p (refusal_by j i (back i j same) g bound limits s q);
  never_both = λ a r p q. never_both limits bound g i a r p (refusal_by j i (back i j same) g bound limits r q);
}
