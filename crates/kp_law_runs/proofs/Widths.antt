-- What a run of `width` ends with, and what that says of its files.
use Rattle.std.proofs.Common.{◌≡◌, ◌≤◌, ℕ, List, [], Some, Vec, length, inl, inr, refl, sym, ◌∙◌, subst, arith}
use Rattle.std.proofs.Math.Nat.{max-le}
use Rattle.std.specs.FinMap.{get}
use Rattle.std.specs.declared.alloc.Global.{Global}
use Rattle.kp_base.specs.declared.lit.Lit.{Lit}
use Rattle.kp_base.specs.declared.ground.Ground.{Ground}
use Rattle.kp_base.specs.declared.ground.Initial.{Initial}
use Rattle.kp_base.specs.declared.refused.Refused.{Refused}
use Rattle.kp_base.specs.Lists.{Member}
use Rattle.kp_tree_grammar.specs.declared.tree.Word.{Word}
use Rattle.kp_tree_grammar.specs.Trees.{Domain, Problem}
use Rattle.kp_law_translation.specs.OfTrees.{ground_of, initial_of}
use Rattle.kp_cover.specs.Targets.{AreTargets}
use Rattle.kp_width.specs.declared.report.WidthRow.{WidthRow}
use Rattle.kp_width.specs.declared.report.WidthReport.{WidthReport}
use Rattle.kp_width.specs.declared.report.WidthReport.TheVariants.{Within, Over}
use Rattle.kp_width.specs.Width.{HasWidth}
use Rattle.kp_width.specs.Rows.{AreRows, IsOver, greatest_width}
use Rattle.kp_width.specs.Answers.{IsReport}
use Rattle.kp_width.specs.Laws.{IsWider}
use Rattle.kp_width.proofs.Public.{rows_have_the_width, targets_over_are_wider, reports_have_the_width}
use Rattle.kp_law_decidable.proofs.Public.{proper_is_known}
use Rattle.kp_outside.specs.Outside.{FileMap}
use Rattle.kp_run_outcome.specs.declared.outcome.Outcome.{Outcome}
use Rattle.kp_run_outcome.specs.declared.status.Status.{Status}
use Rattle.kp_run_outcome.specs.declared.status.Status.TheVariants as status
use Rattle.kp_run_outcome.specs.Ends.{Outside, IsAnswer}
use Rattle.kp_run_messages.specs.Refusals.{nothing}
use Rattle.kp_words.specs.Asked.{Asked}
use Rattle.kp_words.specs.declared.verb.Verb.TheVariants as verbs
use Rattle.kp_words.specs.Command.{IsCall}
use Rattle.kp_run_prepare.specs.Refusing.{named_in}
use Rattle.kp_run_prepare.specs.Prepared.{usual, by_texts, by_trees, early, later}
use Rattle.kp_run.specs.Width.{tells_width, WidthTexts, no_report, with_report}
use Rattle.kp_run.specs.Outcomes.{IsDue}
use Rattle.kp_run.specs.Ends.{Ends}
use Rattle.kp_run.specs.Solved.{GoesOn}
use Rattle.kp_run.proofs.Public.{due_makes, IsCarriedOut, answer_is_carried_out, IsNoRefusal, not_refused, prepared_is_proper, due_by, content_held, held_alone}
use Rattle.kp_law_runs.specs.Width.{WidthsAreAnswered, AreRight, IsTargeted, IsWidthTold, IsTooWide, WidthsAreTrue}
use Rattle.kp_law_runs.proofs.Following.{ends_with}

width_due : (words : List (Vec ℕ Global)) (m : FileMap) (c : Asked) (d : Domain Word) (p : Problem Word) (report : WidthReport) → IsCall verbs.Width words c → GoesOn m c.domain c.problem c.implicates d p → IsReport usual c.bound (ground_of d p) (initial_of d p) report → IsDue words (Some m) (tells_width (ground_of d p) c.bound report)
width_due words m c d p report is g reports =
    let o = tells_width (ground_of d p) c.bound report in
    due_by verbs.Width c (record { domain = g.domain; problem = g.problem; merges = []; plan = []; written = [] }) o is (record { domain = held_alone m c.domain g.domain g.domain_held; problem = held_alone m c.problem g.problem g.problem_held; merges = refl; plan = refl; written = refl }) (later d p g.trees g.prepared (with_report report reports refl))

pub widths_are_answered : WidthsAreAnswered
widths_are_answered words old new s ends m c d p report held is g reports = ends_with words old new s ends m _ held (width_due words m c d p report is g reports)

-- ---- rows

module _ (limit bound : ℕ) (g : Ground) (i : Initial) where
  rights : (ts : List Lit) (rows : List WidthRow) → AreRows limit bound g i ts rows → AreRight g i ts rows
  rights _ _ AreRows.done = AreRight.done
  rights _ _ (AreRows.more t ts row rows here others) = AreRight.more t ts row rows here.same_target (rows_have_the_width limit bound g i t row here) (rights ts rows others)

  bounded : (ts : List Lit) (rows : List WidthRow) → AreRows limit bound g i ts rows → greatest_width rows ≤ bound
  bounded _ _ AreRows.done = omega arith
  bounded _ _ (AreRows.more t ts row rows here others) = max-le here.least_cover.in_bound (bounded ts rows others)

  within : (ts : List Lit) (rows : List WidthRow) → AreRows limit bound g i ts rows → (l : Lit) → Member ts l → (width : ℕ) × HasWidth g i l width × (width ≤ bound)
  within _ _ AreRows.done l m = absurd m
  within _ _ (AreRows.more t ts row rows here others) l m = elim m [
    | inl e ↦ (length row.clauses, subst (λ z. HasWidth g i z (length row.clauses)) e (rows_have_the_width limit bound g i t row here).width, here.least_cover.in_bound)
    | inr k ↦ within ts rows others l k
  ]

-- ---- what was told

-- what a run was about, and its report
record HasReport (m : FileMap) (c : Asked) (o : Outcome) : Type 0 where
  domain_tree : Domain Word
  problem_tree : Problem Word
  goes_on : GoesOn m c.domain c.problem c.implicates domain_tree problem_tree
  report : WidthReport
  is_report : IsReport usual c.bound (ground_of domain_tree problem_tree) (initial_of domain_tree problem_tree) report
  told : o ≡ tells_width (ground_of domain_tree problem_tree) c.bound report

of_texts : (m : FileMap) (c : Asked) (domain problem : List ℕ) → get m c.domain ≡ Some domain → get m c.problem ≡ Some problem → (o : Outcome) → IsNoRefusal o → WidthTexts c domain problem o → HasReport m c o
of_texts m c domain problem first second o answers (early (by_texts r why is)) = absurd (not_refused o nothing r is answers)
of_texts m c domain problem first second o answers (early (by_trees d p names r trees why is)) = absurd (not_refused o names r is answers)
of_texts m c domain problem first second o answers (later d p trees ready (no_report r why is)) = absurd (not_refused o (named_in (ground_of d p)) r is answers)
of_texts m c domain problem first second o answers (later d p trees ready (with_report report reports is)) = record {
  domain_tree = d;
  problem_tree = p;
  goes_on = record { domain = domain; problem = problem; domain_held = first; problem_held = second; trees = trees; prepared = ready };
  report = report;
  is_report = reports;
  told = is;
}

has_report : (words : List (Vec ℕ Global)) (m : FileMap) (c : Asked) (o : Outcome) → IsCall verbs.Width words c → IsDue words (Some m) o → IsNoRefusal o → HasReport m c o
has_report words m c o is due answers =
    let it = due_makes words (Some m) verbs.Width c o is due in
    of_texts m c it.contents.domain it.contents.problem (content_held m c.domain _ it.are.domain) (content_held m c.problem _ it.are.problem) o answers it.makes

module _ (m : FileMap) (c : Asked) (o : Outcome) (x : HasReport m c o) (old new : Outside) (s : Status) (a : IsCarriedOut o old new s) where
  abbrev ground : Ground
  ground = ground_of x.domain_tree x.problem_tree

  abbrev formula : Initial
  formula = initial_of x.domain_tree x.problem_tree

  abbrev of_these : (ts : List Lit) → AreTargets ground ts → IsTargeted m c
  of_these ts are = record { domain_tree = x.domain_tree; problem_tree = x.problem_tree; goes_on = x.goes_on; targets = ts; are_targets = are }

  answered : (u : Outcome) → o ≡ u → IsCarriedOut u old new s
  answered u is = subst (λ z. IsCarriedOut z old new s) is a

  is_measured : s ≡ status.Done → IsWidthTold m c old new
  is_measured done = by x.report x.is_report x.told
    where
      by : (report : WidthReport) → IsReport usual c.bound ground formula report → o ≡ tells_width ground c.bound report → IsWidthTold m c old new
      by _ (IsReport.within ts rows are h few) told = record {
        of_targets = of_these ts are;
        rows = rows;
        right = rights usual.sets c.bound ground formula ts rows h;
        as_wide = reports_have_the_width usual c.bound ground formula rows (IsReport.within ts rows are h few);
        in_bound = bounded usual.sets c.bound ground formula ts rows h;
        told = (answered (tells_width ground c.bound (Within rows)) told).text_is;
        put = (answered (tells_width ground c.bound (Within rows)) told).puts_are;
      }
      by _ (IsReport.over ts t are h v) told = absurd (let b = answered (tells_width ground c.bound (Over t)) told in let not_done = sym b.status_is ∙ done in cc)

  -- a target over the bound has a width, which is above it
  above : (t : Lit) → IsOver usual.sets c.bound ground formula t → IsWider c.bound ground formula t
  above t v = targets_over_are_wider usual.sets c.bound ground formula t (proper_is_known ground formula (prepared_is_proper c.implicates x.domain_tree x.problem_tree x.goes_on.trees.no_fault x.goes_on.prepared)) v

  too_wide : s ≡ status.Negative → IsTooWide m c old new
  too_wide negative = by x.report x.is_report x.told
    where
      by : (report : WidthReport) → IsReport usual c.bound ground formula report → o ≡ tells_width ground c.bound report → IsTooWide m c old new
      by _ (IsReport.within ts rows are h few) told = absurd (let b = answered (tells_width ground c.bound (Within rows)) told in let not_no = sym b.status_is ∙ negative in cc)
      by _ (IsReport.over ts t are h v) told = record {
        of_targets = of_these ts are;
        earlier = h.earlier;
        target = t;
        later = h.later;
        among = h.among;
        within_before = within usual.sets c.bound ground formula h.earlier h.rows h.are_rows;
        width = (above t v).width;
        has_width = (above t v).has_width;
        wider = (above t v).above;
        told = (answered (tells_width ground c.bound (Over t)) told).text_is;
        put = (answered (tells_width ground c.bound (Over t)) told).puts_are;
      }

-- it came to an answer that is no refusal
of_answer : (words : List (Vec ℕ Global)) (old new : Outside) (s : Status) → Ends words old new s → (m : FileMap) (c : Asked) → old.held ≡ Some m → IsCall verbs.Width words c → IsAnswer s → ((r : Refused) → s ≡ status.Refused r → ⊥) → (o : Outcome) × HasReport m c o × IsCarriedOut o old new s
of_answer words old new s ends m c held is answer other =
    let w = answer_is_carried_out words old new s ends m held answer in
    (w.outcome, has_report words m c w.outcome is w.due (λ r e. other r (w.carried_out.status_is ∙ e)), w.carried_out)

pub widths_are_true : WidthsAreTrue
widths_are_true words old new s ends m c held is = record {
  done = λ done. let x = of_answer words old new s ends m c held is (subst IsAnswer (sym done) tt) (λ r e. absurd (let f = sym done ∙ e in cc)) in is_measured m c x.0 x.1 old new s x.2 done;
  negative = λ negative. let x = of_answer words old new s ends m c held is (subst IsAnswer (sym negative) tt) (λ r e. absurd (let f = sym negative ∙ e in cc)) in too_wide m c x.0 x.1 old new s x.2 negative;
}
