-- A call for the width of the two texts of `line 2`: it ends with Done, and tells a row. The one target has width 1: that it is at one of the two cells covers it.
use Rattle.std.proofs.Common.{◌≡◌, ◌<◌, ◌≤◌, ℕ, zero, suc, Bool, true, false, List, [], ◌∷◌, Some, filter, map, inl, inr, refl, sym, ap, ◌∙◌, subst, arith, codes}
use Rattle.std.proofs.lemmas.Bool.{false≢true}
use Rattle.std.specs.Fmt.{digits}
use Rattle.std.specs.List.Sorted.{IsSorted}
use Rattle.kp_base.specs.declared.ground.Action.{Action}
use Rattle.kp_base.specs.declared.ground.Effect.{Effect}
use Rattle.kp_base.specs.declared.lit.Lit.{Lit}
use Rattle.kp_base.specs.Planning.{Meets, AllMeet, AreTagsOfClauses, IsPrime, Member, choices, each_once, signed, positive, negative, negated, lits_cmp, set_of, same_set, IsRelevant, either_value, IsCandidate, AreRelevant, IsClauseFor, AreClausesFor, State, holds, is_model}
use Rattle.kp_base.specs.Lit.{has as has_lit}
use Rattle.kp_base.specs.LitSet.{is_within}
use Rattle.kp_base.proofs.Lists.{all_member, any_from, any_member}
use Rattle.kp_base.proofs.Lits.{has-member}
use Rattle.kp_base.proofs.Members.{ascending_same}
use Rattle.kp_clauses.proofs.Public.{within_member}
use Rattle.kp_cover_subsets.specs.Subsets.{subsets, choose}
use Rattle.kp_cover.specs.Covering.{IsCover}
use Rattle.kp_width.specs.declared.report.WidthRow.{WidthRow}
use Rattle.kp_width.specs.declared.report.WidthReport.TheVariants.{Within}
use Rattle.kp_width.specs.Rows.{NoneCovers, AreRows, IsRowOf}
use Rattle.kp_width.specs.Answers.{IsReport}
use Rattle.kp_width.specs.Laws.{IsRightRow}
use Rattle.kp_width.proofs.Public.{rows_have_the_width}
use Rattle.kp_gen.specs.Lines.{text}
use Rattle.kp_gen.specs.Line as line
use Rattle.kp_run_outcome.specs.declared.status.Status.TheVariants as status
use Rattle.kp_run_outcome.specs.Ends.{Outside}
use Rattle.kp_run_prepare.specs.Prepared.{usual}
use Rattle.kp_run.specs.Width.{tells_width}
use Rattle.kp_run.specs.Ends.{Ends}
use Rattle.kp_run.specs.Solved.{GoesOn}
use Rattle.kp_law_runs.proofs.ExampleOutcomes.{holding as example_holding}
use Rattle.kp_law_runs.specs.Follows.{EndsWith}
use Rattle.kp_law_runs.specs.Width.{AreRight, IsWidthTold}
use Rattle.kp_law_runs.proofs.Widths.{widths_are_answered, widths_are_true}
use Rattle.kp_law_runs.proofs.ExampleWidthBounds.{front, measuring, is_plain, domain_held, problem_held, empty_tag}
use Rattle.kp_law_runs.proofs.ExampleWidthBounds as runs
use Rattle.kp_law_runs.proofs.ExampleBenches.{cells_tree, two_tree, trees, g, i, left, at_first, first_start, at_second, second_start, prepared, second_for, not_met}
use Rattle.kp_law_runs.proofs.ExampleMoving.{either_cell, prime, below, cells_for, told_of, test, neither, not_so, some_holds, are_targets}

-- ---- the relevant clauses: it is at one of the cells, and that it is at the second or isn't

abbrev clauses : List (List Lit)
clauses = either_cell ∷ either_value 1 ∷ []

-- a literal of the first cell is relevant to itself alone
alone : (l m : Lit) → IsRelevant g.actions l m → l.atom.0 ≡ 0 → l ≡ m
alone l _ (IsRelevant.itself _) e = refl
alone l m (IsRelevant.condition _ _ h) e = by h.action h.action_in h.effect h.effect_in h.condition
  where
    by : (a : Action) → Member (left ∷ []) a → (x : Effect) → Member a.effects x → Member x.cond l → l ≡ m
    by a (inr never) x k c = absurd never
    by a (inl same) x k c = of_these x (subst (λ (y : Action). Member y.effects x) (sym same) k) c
      where
        second : Member (positive 1 ∷ []) l → l ≡ m
        second (inl is) = absurd (let one : 1 ≡ l.atom.0 = ap (λ (z : Lit). z.atom.0) is in omega (arith, one, e))
        second (inr never) = absurd never

        of_these : (x : Effect) → Member left.effects x → Member x.cond l → l ≡ m
        of_these x (inl is) c = second (subst (λ (y : Effect). Member y.cond l) (sym is) c)
        of_these x (inr (inl is)) c = second (subst (λ (y : Effect). Member y.cond l) (sym is) c)
        of_these x (inr (inr never)) c = absurd never
alone l n (IsRelevant.onward _ m _ h k) e =
    let same : l ≡ m = alone l m h e in
    same ∙ alone m n k (sym (ap (λ (z : Lit). z.atom.0) same) ∙ e)
alone _ _ (IsRelevant.negation l m h) e = ap negated (alone l m h e)

-- so its negation isn't
not_relevant : IsRelevant g.actions (negative 0) (positive 0) → ⊥
not_relevant h = false≢true (ap (λ (l : Lit). l.positive) (alone (negative 0) (positive 0) h refl))

-- a relevant prime implicate is that it is at one of the cells
module _ (c : List Lit) (is_prime : IsPrime i c) (each : AreRelevant g.actions (positive 0) c) where
  -- it has the second cell, since it holds where that is so
  has_second : Member c (positive 1)
  unfolding at_second
  has_second = let l = any_member (holds at_second) c (is_prime.implicate.holds_always at_second second_start) in by l.0.atom.0 l.0.positive l.1 l.2
    where
      by : (p : ℕ) (b : Bool) → Member c (record { atom = record { 0 = p }; positive = b }) → signed b (at_second p) ≡ true → Member c (positive 1)
      by zero true there h = absurd (false≢true h)
      by zero false there h = absurd (not_relevant (each (negative 0) there))
      by (suc zero) true there h = there
      by (suc zero) false there h = absurd (false≢true h)
      by (suc (suc p)) b there h = absurd (let lt = below _ (positive 0) (each _ there) (omega arith) in omega (arith, lt))

  -- and the first, since it is no tautology
  has_first : Member c (positive 0)
  unfolding at_first
  has_first = let l = any_member (holds at_first) c (is_prime.implicate.holds_always at_first first_start) in by l.0.atom.0 l.0.positive l.1 l.2
    where
      by : (p : ℕ) (b : Bool) → Member c (record { atom = record { 0 = p }; positive = b }) → signed b (at_first p) ≡ true → Member c (positive 0)
      by zero true there h = there
      by zero false there h = absurd (false≢true h)
      by (suc zero) true there h = absurd (false≢true h)
      by (suc zero) false there h = absurd (false≢true (sym is_prime.implicate.proper ∙ any_from (λ l. has_lit c (negated l)) c (positive 1) has_second (has-member c (negative 1) there)))
      by (suc (suc p)) b there h = absurd (let lt = below _ (positive 0) (each _ there) (omega arith) in omega (arith, lt))

  is_cells : either_cell ≡ c
  is_cells = ascending_same either_cell c prime.ascending is_prime.ascending (within_member either_cell c inside) (within_member c either_cell (is_prime.least either_cell prime.implicate inside))
    where
      inside : is_within either_cell c ≡ true
      inside = rw (has-member c (positive 0) has_first, has-member c (positive 1) has_second) refl

are_clauses : AreClausesFor g.actions 2 i (positive 0) clauses
are_clauses = record { exact = λ c. (there c, λ is. one c is.candidate is.relevant); once = (apart, (λ never. never, tt)); in_order = sorted }
  where
    there : (c : List Lit) → Member clauses c → IsClauseFor g.actions 2 i (positive 0) c
    there c (inl e) = subst (IsClauseFor g.actions 2 i (positive 0)) e cells_for
    there c (inr (inl e)) = subst (IsClauseFor g.actions 2 i (positive 0)) e second_for
    there c (inr (inr never)) = absurd never

    one : (c : List Lit) → IsCandidate 2 i c → AreRelevant g.actions (positive 0) c → Member clauses c
    one c (IsCandidate.implicate _ is_prime long) each = inl (is_cells c is_prime each)
    one _ (IsCandidate.unsettled p lt differ) each = of_atom p lt each
      where
        of_atom : (p : ℕ) → p < 2 → AreRelevant g.actions (positive 0) (either_value p) → Member clauses (either_value p)
        of_atom zero lt each = absurd (not_relevant (each (negative 0) (inr (inl refl))))
        of_atom (suc zero) lt each = inr (inl refl)
        of_atom (suc (suc p)) lt each = absurd (omega (arith, lt))

    apart : Member (either_value 1 ∷ []) either_cell → ⊥
    apart (inl e) = false≢true (ap (λ c. has_lit c (positive 0)) e)
    apart (inr never) = never

    sorted : IsSorted lits_cmp clauses
    sorted zero d low high = refl
    sorted (suc k) d low high = absurd (omega arith)

-- ---- the row of the target: the first of these clauses covers it, and the empty tag doesn't

abbrev row : WidthRow
row = record { target = positive 0; clauses = either_cell ∷ []; tags = (positive 0 ∷ []) ∷ (positive 1 ∷ []) ∷ [] }

first_passes : test (positive 0 ∷ []) ≡ true
unfolding at_first
first_passes = (told_of.tells (positive 0 ∷ [])).1 (record { state = at_first; model = first_start; all_true = refl })

second_passes : test (positive 1 ∷ []) ≡ true
unfolding at_second
second_passes = (told_of.tells (positive 1 ∷ [])).1 (record { state = at_second; model = second_start; all_true = refl })

are_tags : AreTagsOfClauses i row.clauses row.tags
are_tags = record { test = test; tells = told_of.tells; are = these test first_passes second_passes }
  where
    these : (test : List Lit → Bool) → test (positive 0 ∷ []) ≡ true → test (positive 1 ∷ []) ≡ true → row.tags ≡ each_once same_set (filter test (map set_of (choices row.clauses)))
    these test a b = rw (a, b) refl

-- the tag of one literal meets each clause that has it
by_itself : (l : Lit) (c : List Lit) → Member c l → Meets i (l ∷ []) c
by_itself l c there = record { lit = l; of_clause = there; entailed = λ s model all. all_member (holds s) (l ∷ []) l (inl refl) all }

-- where it is at the first cell, it isn't at the second
not_at_both : (s : State) → is_model i s ≡ true → holds s (positive 0) ≡ true → holds s (negative 1) ≡ true
not_at_both s model first_ = let l = some_holds s model neither (inr (inl refl)) in by l.0 l.1 l.2
  where
    by : (l : Lit) → Member neither l → holds s l ≡ true → holds s (negative 1) ≡ true
    by l (inl e) h = absurd (not_so s 0 first_ (subst (λ z. holds s z ≡ true) (sym e) h))
    by l (inr (inl e)) h = subst (λ z. holds s z ≡ true) (sym e) h
    by l (inr (inr never)) h = absurd never

all_meet : AllMeet i row.tags clauses
all_meet tag c (inl e) m = subst (λ t. Meets i t c) e (of_first c m)
  where
    of_first : (c : List Lit) → Member clauses c → Meets i (positive 0 ∷ []) c
    of_first c (inl e) = subst (Meets i (positive 0 ∷ [])) e (by_itself (positive 0) either_cell (inl refl))
    of_first c (inr (inl e)) = subst (Meets i (positive 0 ∷ [])) e (record { lit = negative 1; of_clause = inr (inl refl); entailed = λ s model all. not_at_both s model (all_member (holds s) (positive 0 ∷ []) (positive 0) (inl refl) all) })
    of_first c (inr (inr never)) = absurd never
all_meet tag c (inr (inl e)) m = subst (λ t. Meets i t c) e (of_second c m)
  where
    of_second : (c : List Lit) → Member clauses c → Meets i (positive 1 ∷ []) c
    of_second c (inl e) = subst (Meets i (positive 1 ∷ [])) e (by_itself (positive 1) either_cell (inr (inl refl)))
    of_second c (inr (inl e)) = subst (Meets i (positive 1 ∷ [])) e (by_itself (positive 1) (either_value 1) (inl refl))
    of_second c (inr (inr never)) = absurd never
all_meet tag c (inr (inr never)) m = absurd never

-- the empty tag doesn't meet the second clause
uncovered : (tags : List (List Lit)) → IsCover i clauses [] tags → ⊥
uncovered tags c = not_met (c.cover [] (either_value 1) (subst (λ z. Member z []) (sym (c.are.are ∙ empty_tag c.are.test ((c.are.tells []).1 (record { state = at_first; model = first_start; all_true = refl })))) (inl refl)) (inr (inl refl)))

is_row : IsRowOf usual.sets 3 g i (positive 0) row
is_row = record {
  same_target = refl;
  relevant = clauses;
  are_relevant = are_clauses;
  least_cover = record {
    in_bound = omega arith;
    few = omega arith;
    first = record { earlier = []; later = (either_value 1 ∷ []) ∷ []; among = refl; covers = record { are = are_tags; cover = all_meet }; none_earlier = λ set tags m c. m };
    passed = record { few = few; none_covers = none };
  };
}
  where
    few : (v : ℕ) → v < 1 → choose 2 v ≤ usual.sets
    few zero lt = omega arith
    few (suc v) lt = absurd (omega (arith, lt))

    none : (v : ℕ) → v < 1 → NoneCovers i clauses (subsets v clauses)
    none zero lt set tags (inl e) c = uncovered tags (subst (λ z. IsCover i clauses z tags) (sym e) c)
    none zero lt set tags (inr never) c = absurd never
    none (suc v) lt set tags m c = absurd (omega (arith, lt))

is_right : IsRightRow g i (positive 0) row
is_right = rows_have_the_width usual.sets 3 g i (positive 0) row is_row

are_right : AreRight g i (positive 0 ∷ []) (row ∷ [])
are_right = AreRight.more (positive 0) [] row [] refl is_right AreRight.done

is_report : IsReport usual 3 g i (Within (row ∷ []))
is_report = IsReport.within (positive 0 ∷ []) (row ∷ []) are_targets (AreRows.more (positive 0) [] row [] is_row AreRows.done) (omega arith)

-- ---- the run

abbrev domain : List ℕ
domain = text line.domain_lines

abbrev problem : List ℕ
problem = text (line.problem_lines 2)

abbrev before : Outside
before = runs.before domain problem

abbrev after : Outside
after = runs.after domain problem (tells_width g 3 (Within (row ∷ []))).text

ends : Ends (front []) before after status.Done
ends = runs.ends (front []) 3 is_plain domain problem cells_tree two_tree trees prepared (Within (row ∷ [])) is_report refl

goes_on : GoesOn (example_holding domain problem) (codes "d") (codes "p") 20000 cells_tree two_tree
goes_on = record { domain = domain; problem = problem; domain_held = domain_held domain problem; problem_held = problem_held domain problem; trees = trees; prepared = prepared }

is_answered : EndsWith (tells_width g 3 (Within (row ∷ []))) before after status.Done
is_answered = widths_are_answered (front []) before after status.Done ends (example_holding domain problem) (measuring 3) cells_tree two_tree (Within (row ∷ [])) refl is_plain goes_on is_report

is_measured : IsWidthTold (example_holding domain problem) (measuring 3) before after
is_measured = (widths_are_true (front []) before after status.Done ends (example_holding domain problem) (measuring 3) refl is_plain).done refl

-- the whole text
told : after.told ≡ Some (codes "width 1\ntarget (at c1) width 1\nclause (at c1) (at c2)\ntag (at c1)\ntag (at c2)\n")
unfolding digits
told = refl
