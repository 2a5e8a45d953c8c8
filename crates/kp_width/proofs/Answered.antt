-- Where the parts of the question are known, there is an answer.
use Rattle.std.proofs.Common.{◌≡◌, ◌≤◌, ◌+◌, ◌⊎◌, ℕ, zero, suc, List, [], ◌∷◌, length, refl, sym, ap, subst, inl, inr, arith}
use Rattle.std.proofs.lemmas.Bool.{cases_lt}
use Rattle.kp_base.specs.declared.lit.Lit.{Lit}
use Rattle.kp_base.specs.declared.ground.Ground.{Ground}
use Rattle.kp_base.specs.declared.ground.Initial.{Initial}
use Rattle.kp_base.specs.declared.refused.Refused.{Refused}
use Rattle.kp_base.specs.declared.refused.Refused.TheVariants as refusals
use Rattle.kp_base.specs.Lists.{Member}
use Rattle.kp_base.specs.Covering.{AreTagsOfClauses, AllMeet}
use Rattle.kp_base.specs.Relevance.{AreClausesFor}
use Rattle.kp_cover_subsets.specs.Subsets.{subsets, choose}
use Rattle.kp_cover.specs.Covering.{IsCover}
use Rattle.kp_cover.proofs.Public.{cov_once}
use Rattle.kp_width.specs.declared.report.WidthRow.{WidthRow}
use Rattle.kp_width.specs.declared.report.WidthReport.{WidthReport}
use Rattle.kp_width.specs.declared.report.WidthReport.TheVariants as reports
use Rattle.kp_width.specs.Rows.{NoneCovers, IsFirstCover, AreSizesPassed, HasLeastCover, HasTooManySets, IsRowOf, IsOver, IsOverfullAt, AreRows, IsTargetReached, row_tags}
use Rattle.kp_width.specs.Answers.{IsReport, RefusesWidth}
use Rattle.kp_width.specs.Laws.{KnownProblemsAreAnswered}
use Rattle.kp_width.proofs.Places.{subset_length}
use Rattle.kp_width.proofs.Right.{it_is_there}

-- ---- one search

module _ (i : Initial) (cs : List (List Lit)) (tags : (ds : List (List Lit)) → (ts : List (List Lit)) × AreTagsOfClauses i ds ts) (meeting : (ts ds : List (List Lit)) → AllMeet i ts ds ⊎ (AllMeet i ts ds → ⊥)) where
  -- the first of some sets that covers, or none does
  abbrev pub FirstOrNone : List (List (List Lit)) → Type 0
  FirstOrNone sets = ((set : List (List Lit)) × (ts : List (List Lit)) × IsFirstCover i cs sets set ts) ⊎ NoneCovers i cs sets

  -- a set of clauses covers, or doesn't
  covering : (set : List (List Lit)) → ((ts : List (List Lit)) × IsCover i cs set ts) ⊎ ((ts : List (List Lit)) → IsCover i cs set ts → ⊥)
  covering set = let its = tags set in elim (meeting its.0 cs) [
    | inl meet ↦ inl (its.0, record { are = its.1; cover = meet })
    | inr never ↦ inr (λ ts c. never (subst (λ (us : List (List Lit)). AllMeet i us cs) (cov_once i i set ts its.0 (λ s. refl) c.are its.1) c.cover))
  ]

  pub first_cover : (sets : List (List (List Lit))) → FirstOrNone sets
  first_cover [] = inr (λ set ts m c. absurd m)
  first_cover (x ∷ sets) = go (covering x) (first_cover sets)
    where
      go : ((ts : List (List Lit)) × IsCover i cs x ts) ⊎ ((ts : List (List Lit)) → IsCover i cs x ts → ⊥) → FirstOrNone sets → FirstOrNone (x ∷ sets)
      go (inl found) rest = inl (x, found.0, record { earlier = []; later = sets; among = refl; covers = found.1; none_earlier = λ set ts m c. absurd m })
      go (inr never) (inl (set, ts, f)) = inl (
        set,
        ts,
        record {
          earlier = x ∷ f.earlier;
          later = f.later;
          among = ap (λ z. x ∷ z) f.among;
          covers = f.covers;
          none_earlier = λ other us m c. elim m [ inl same ↦ never us (subst (λ (z : List (List Lit)). IsCover i cs z us) (sym same) c) | inr later ↦ f.none_earlier other us later c ];
        },
      )
      go (inr never) (inr lack) = inr (λ other us m c. elim m [ inl same ↦ never us (subst (λ (z : List (List Lit)). IsCover i cs z us) (sym same) c) | inr later ↦ lack other us later c ])

  -- how a search among the sizes below a number ends
  data Ends (limit bound k : ℕ) : Type 0 where
    passed : AreSizesPassed limit i cs k → Ends limit bound k
    found : (set ts : List (List Lit)) → HasLeastCover limit bound i cs set ts → Ends limit bound k
    refused : (size : ℕ) → HasTooManySets limit bound i cs size → Ends limit bound k

  sizes : (limit bound k : ℕ) → k ≤ bound + 1 → Ends limit bound k
  sizes limit bound zero le = Ends.passed (record { few = λ v below. absurd (omega (arith, below)); none_covers = λ v below. absurd (omega (arith, below)) })
  sizes limit bound (suc k) le = go (sizes limit bound k (omega (arith, le)))
    where
      -- one size more is passed
      onward : choose (length cs) k ≤ limit → NoneCovers i cs (subsets k cs) → AreSizesPassed limit i cs k → AreSizesPassed limit i cs (suc k)
      onward few lack before = record {
        few = λ v below. elim (cases_lt v k) [
          | inl lt ↦ before.few v lt
          | inr ge ↦ let same : k ≡ v = omega (arith, below, ge) in subst (λ (m : ℕ). choose (length cs) m ≤ limit) same few
        ];
        none_covers = λ v below. elim (cases_lt v k) [
          | inl lt ↦ before.none_covers v lt
          | inr ge ↦ let same : k ≡ v = omega (arith, below, ge) in subst (λ (m : ℕ). NoneCovers i cs (subsets m cs)) same lack
        ];
      }

      by : FirstOrNone (subsets k cs) → choose (length cs) k ≤ limit → AreSizesPassed limit i cs k → Ends limit bound (suc k)
      by (inl (set, ts, f)) few before =
          let long : k ≡ length set = sym (subset_length k cs set (it_is_there i cs (subsets k cs) set ts f)) in
          Ends.found set ts (record {
            in_bound = omega (arith, le, long);
            few = subst (λ (m : ℕ). choose (length cs) m ≤ limit) long few;
            first = subst (λ (m : ℕ). IsFirstCover i cs (subsets m cs) set ts) long f;
            passed = subst (AreSizesPassed limit i cs) long before;
          })
      by (inr lack) few before = Ends.passed (onward few lack before)

      go : Ends limit bound k → Ends limit bound (suc k)
      go (Ends.found set ts l) = Ends.found set ts l
      go (Ends.refused size r) = Ends.refused size r
      go (Ends.passed before) = elim (cases_lt limit (choose (length cs) k)) [
        | inl over ↦ Ends.refused k (record { in_bound = omega (arith, le); many = over; passed = before })
        | inr few ↦ by (first_cover (subsets k cs)) few before
      ]

-- ---- targets

module _ (limit bound : ℕ) (g : Ground) (i : Initial) (tags : (ds : List (List Lit)) → (ts : List (List Lit)) × AreTagsOfClauses i ds ts) (meeting : (ts ds : List (List Lit)) → AllMeet i ts ds ⊎ (AllMeet i ts ds → ⊥)) where
  data OnTarget (t : Lit) : Type 0 where
    covered : (row : WidthRow) → IsRowOf limit bound g i t row → OnTarget t
    over : IsOver limit bound g i t → OnTarget t
    refused : (size : ℕ) → IsOverfullAt limit bound g i t size → OnTarget t

  on_target : (t : Lit) (cs : List (List Lit)) → AreClausesFor g.actions (length g.atoms) i t cs → OnTarget t
  on_target t cs are = by (sizes i cs tags meeting limit bound (bound + 1) (omega arith))
    where
      by : Ends i cs tags meeting limit bound (bound + 1) → OnTarget t
      by (Ends.passed h) = OnTarget.over (record { relevant = cs; are_relevant = are; no_cover = h })
      by (Ends.refused size h) = OnTarget.refused size (record { relevant = cs; are_relevant = are; too_many = h })
      by (Ends.found set ts h) = OnTarget.covered (record { target = t; clauses = set; tags = ts }) (record { same_target = refl; relevant = cs; are_relevant = are; least_cover = h })

  data InTurn (ts : List Lit) : Type 0 where
    all : (rows : List WidthRow) → AreRows limit bound g i ts rows → InTurn ts
    over : (t : Lit) → IsTargetReached limit bound g i ts t → IsOver limit bound g i t → InTurn ts
    refused : (t : Lit) (size : ℕ) → IsTargetReached limit bound g i ts t → IsOverfullAt limit bound g i t size → InTurn ts

  -- the first target is reached at once
  at_once : (t : Lit) (ts : List Lit) → IsTargetReached limit bound g i (t ∷ ts) t
  at_once t ts = record { earlier = []; later = ts; among = refl; rows = []; are_rows = AreRows.done }

  -- and one behind it, where it has a row
  behind : (t u : Lit) (ts : List Lit) (row : WidthRow) → IsRowOf limit bound g i t row → IsTargetReached limit bound g i ts u → IsTargetReached limit bound g i (t ∷ ts) u
  behind t u ts row here r = record { earlier = t ∷ r.earlier; later = r.later; among = ap (λ z. t ∷ z) r.among; rows = row ∷ r.rows; are_rows = AreRows.more t r.earlier row r.rows here r.are_rows }

  in_turn : (ts : List Lit) → ((t : Lit) → Member ts t → (cs : List (List Lit)) × AreClausesFor g.actions (length g.atoms) i t cs) → InTurn ts
  in_turn [] clauses = InTurn.all [] AreRows.done
  in_turn (t ∷ ts) clauses = let q = clauses t (inl refl) in go (on_target t q.0 q.1) (in_turn ts (λ u m. clauses u (inr m)))
    where
      go : OnTarget t → InTurn ts → InTurn (t ∷ ts)
      go (OnTarget.over h) rest = InTurn.over t (at_once t ts) h
      go (OnTarget.refused size h) rest = InTurn.refused t size (at_once t ts) h
      go (OnTarget.covered row h) (InTurn.all rows others) = InTurn.all (row ∷ rows) (AreRows.more t ts row rows h others)
      go (OnTarget.covered row h) (InTurn.over u r o) = InTurn.over u (behind t u ts row h r) o
      go (OnTarget.covered row h) (InTurn.refused u size r o) = InTurn.refused u size (behind t u ts row h r) o

pub answered : KnownProblemsAreAnswered
answered limits bound g i k = by (in_turn limits.sets bound g i k.tags k.meeting k.targets k.clauses)
  where
    by : InTurn limits.sets bound g i k.tags k.meeting k.targets → ((report : WidthReport) × IsReport limits bound g i report) ⊎ ((r : Refused) × RefusesWidth limits bound g i r)
    by (InTurn.over t r o) = inl (reports.Over t, IsReport.over k.targets t k.are_targets r o)
    by (InTurn.refused t size r o) = inr (refusals.SetsOver t size, RefusesWidth.sets_over k.targets t size k.are_targets r o)
    by (InTurn.all rows h) = elim (cases_lt limits.tags (length (row_tags rows))) [
      | inl many ↦ inr (refusals.TagsOver, RefusesWidth.tags_over k.targets rows k.are_targets h many)
      | inr few ↦ inl (reports.Within rows, IsReport.within k.targets rows k.are_targets h few)
    ]
