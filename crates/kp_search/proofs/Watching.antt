-- Operators that are looked for under a fact.
use Rattle.std.proofs.Common.{◌≡◌, ◌<◌, ◌+◌, ◌⊎◌, ℕ, Bool, true, false, List, [], ◌∷◌, ◌++◌, Option, Some, None, length, set, take, get_or, slice_get, length-set, get_or-set_same, get_or-set_other, arith, refl, sym, ap, subst, ◌∙◌, inl, inr}
use Rattle.std.specs.List.{list_all}
use Rattle.std.proofs.lemmas.Bool.{and_parts, cases_eq, ltb-true, false≢true}
use Rattle.std.proofs.lemmas.List.{take_more}
use Rattle.std.proofs.lemmas.Option.{slice_get_within, slice_get-get_or, get_or_from_slice_get}
use Rattle.kp_base.specs.Lists.{Member}
use Rattle.kp_base.proofs.Lists.{all_member, append_member, member_at, member_left, member_right}
use Rattle.kp_classic.specs.declared.task.Task.{Task}
use Rattle.kp_classic.specs.declared.task.Op.{Op}
use Rattle.kp_classic.specs.Fits.{are_below, fits, fits_effect, fits_op, IsFit}
use Rattle.kp_classic.specs.States.{FactSet, has}
use Rattle.kp_classic.specs.Steps.{meets, applicable}
use Rattle.kp_search.specs.Trace.{can}
use Rattle.kp_search.specs.Watched.{row, AreWatched}

-- ---- numbers that were read

pub member_read : (xs : List ℕ) (i : ℕ) → i < length xs → Member xs (get_or xs i 0)
member_read xs i lt = member_at xs i (get_or xs i 0) (slice_get-get_or xs i 0 lt)

member_more : (xs : List ℕ) (i k : ℕ) → i < length xs → Member (take (i + 1) xs) k → Member (take i xs) k ⊎ (k ≡ get_or xs i 0)
member_more xs i k lt m = elim (append_member (take i xs) (get_or xs i 0 ∷ []) k (subst (λ ys. Member ys k) (take_more xs i 0 lt) m)) [
  | inl old ↦ inl old
  | inr new ↦ inr (only k (get_or xs i 0) new)
]
  where
    only : (k x : ℕ) → Member (x ∷ []) k → k ≡ x
    only k x (inl e) = sym e
    only k x (inr m) = absurd m

-- ---- bits that are set

set_there : (bits : List Bool) (n : ℕ) → n < length bits → slice_get (set bits n true) n ≡ Some true
set_there bits n lt = let long = length-set bits n true in slice_get-get_or (set bits n true) n true (omega (arith, long, lt)) ∙ ap Some (get_or-set_same bits n true true lt)

set_kept : (bits : List Bool) (n k : ℕ) → n < length bits → slice_get bits k ≡ Some true → slice_get (set bits n true) k ≡ Some true
set_kept bits n k lt h = elim (cases_eq k n) [
  | inl same ↦ subst (λ j. slice_get (set bits n true) j ≡ Some true) (sym same) (set_there bits n lt)
  | inr apart ↦
      let long = length-set bits n true in
      let within = slice_get_within bits k true h in
      slice_get-get_or (set bits n true) k true (omega (arith, long, within)) ∙ ap Some (get_or-set_other bits n k true true apart ∙ get_or_from_slice_get bits k true true h)
]

-- the bits are as many as those before, and those of the first numbers are set beside the others
abbrev pub SetsFirst : List Bool → List ℕ → ℕ → List Bool → Type 0
SetsFirst old numbers i new =
    (length new ≡ length old)
    × ((k : ℕ) → slice_get old k ≡ Some true → slice_get new k ≡ Some true)
    × ((k : ℕ) → Member (take i numbers) k → slice_get new k ≡ Some true)

pub sets_more : (old mid new : List Bool) (numbers : List ℕ) (i : ℕ) → i < length numbers → get_or numbers i 0 < length mid → new ≡ set mid (get_or numbers i 0) true → SetsFirst old numbers i mid → SetsFirst old numbers (i + 1) new
sets_more old mid new numbers i lt inside is h = subst (SetsFirst old numbers (i + 1)) (sym is) (
  length-set mid (get_or numbers i 0) true ∙ h.0,
  λ k e. set_kept mid (get_or numbers i 0) k inside (h.1 k e),
  λ k m. elim (member_more numbers i k lt m) [
    | inl old ↦ set_kept mid (get_or numbers i 0) k inside (h.2 k old)
    | inr new ↦ subst (λ j. slice_get (set mid (get_or numbers i 0) true) j ≡ Some true) (sym new) (set_there mid (get_or numbers i 0) inside)
  ],
)

-- ---- the rows

pub none_watched : (t : Task) (rows : List (List ℕ)) → ((place : ℕ) → row rows place ≡ []) → AreWatched t 0 rows
none_watched t rows none = record {
  each = λ k o lt at. absurd (omega (arith, lt));
  inside = λ place k m. absurd (subst (λ ks. Member ks k) (none place) m);
}

-- a number more in a row
row_there : (rows : List (List ℕ)) (place n : ℕ) → place < length rows → row (set rows place (row rows place ++ n ∷ [])) place ≡ row rows place ++ n ∷ []
row_there rows place n lt = get_or-set_same rows place (row rows place ++ n ∷ []) [] lt

row_kept : (rows : List (List ℕ)) (place n q k : ℕ) → place < length rows → Member (row rows q) k → Member (row (set rows place (row rows place ++ n ∷ [])) q) k
row_kept rows place n q k lt m = elim (cases_eq q place) [
  | inl same ↦
      subst (λ p. Member (row (set rows place (row rows place ++ n ∷ [])) p) k) (sym same)
      (subst (λ ks. Member ks k) (sym (row_there rows place n lt)) (member_left (row rows place) (n ∷ []) k (subst (λ p. Member (row rows p) k) same m)))
  | inr apart ↦ subst (λ ks. Member ks k) (sym (get_or-set_other rows place q (row rows place ++ n ∷ []) [] apart)) m
]

row_parts : (rows : List (List ℕ)) (place n q k : ℕ) → place < length rows → Member (row (set rows place (row rows place ++ n ∷ [])) q) k → Member (row rows q) k ⊎ (k ≡ n)
row_parts rows place n q k lt m = elim (cases_eq q place) [
  | inl same ↦
      elim (append_member (row rows place) (n ∷ []) k (subst (λ ks. Member ks k) (row_there rows place n lt) (subst (λ p. Member (row (set rows place (row rows place ++ n ∷ [])) p) k) same m))) [
        | inl old ↦ inl (subst (λ p. Member (row rows p) k) (sym same) old)
        | inr (inl e) ↦ inr (sym e)
        | inr (inr none) ↦ absurd none
      ]
  | inr apart ↦ inl (subst (λ ks. Member ks k) (get_or-set_other rows place q (row rows place ++ n ∷ []) [] apart) m)
]

pub watched_more : (t : Task) (n place : ℕ) (o : Op) (rows new : List (List ℕ)) → n < length t.ops → slice_get t.ops n ≡ Some o → place < length rows → (Member o.pre.yes place ⊎ (place ≡ length t.facts))
    → new ≡ set rows place (row rows place ++ n ∷ []) → AreWatched t n rows → AreWatched t (n + 1) new
watched_more t n place o rows new lt at inside asks is w = subst (AreWatched t (n + 1)) (sym is) (record { each = each; inside = within })
  where
    more : List (List ℕ)
    more = set rows place (row rows place ++ n ∷ [])

    each : (k : ℕ) (p : Op) → k < n + 1 → slice_get t.ops k ≡ Some p → (q : ℕ) × (Member p.pre.yes q ⊎ (q ≡ length t.facts)) × Member (row more q) k
    each k p less there = elim (cases_eq k n) [
      | inl same ↦
          let is_op : o ≡ p = same_some o p (sym at ∙ (ap (slice_get t.ops) (sym same) ∙ there)) in (
            place,
            subst (λ (x : Op). Member x.pre.yes place ⊎ (place ≡ length t.facts)) is_op asks,
            subst (λ j. Member (row more place) j) (sym same) (subst (λ ks. Member ks n) (sym (row_there rows place n inside)) (member_right (row rows place) (n ∷ []) n (inl refl))),
          )
      | inr apart ↦ let r = w.each k p (omega (arith, less, apart)) there in (r.0, r.1, row_kept rows place n r.0 k inside r.2)
    ]
      where
        same_some : (a b : Op) → Some a ≡ Some b → a ≡ b
        same_some a b e = cc

    within : (q k : ℕ) → Member (row more q) k → k < length t.ops
    within q k m = elim (row_parts rows place n q k inside m) [
      | inl old ↦ w.inside q k old
      | inr new ↦ subst (λ j. j < length t.ops) (sym new) lt
    ]

-- the facts that must hold for an operator are facts of the task
fact_below : (t : Task) (n : ℕ) (o : Op) (place : ℕ) → IsFit t → slice_get t.ops n ≡ Some o → Member o.pre.yes place → place < length t.facts
fact_below t n o place fit at m =
    let whole = all_member (fits_op (length t.facts)) t.ops o (member_at t.ops n o at) fit.ops in
    let pre = (and_parts (fits (length t.facts) o.pre) (list_all (fits_effect (length t.facts)) o.effects) whole).0 in
    let yes = (and_parts (are_below (length t.facts) o.pre.yes) (are_below (length t.facts) o.pre.no) pre).0 in
    ltb-true place (length t.facts) (all_member _ o.pre.yes place m yes)

pub asked_below : (t : Task) (n : ℕ) (o : Op) (place : ℕ) → IsFit t → slice_get t.ops n ≡ Some o → (Member o.pre.yes place ⊎ (place ≡ length t.facts)) → place < length t.facts + 1
asked_below t n o place fit at (inr last) = omega (arith, last)
asked_below t n o place fit at (inl m) = let lt = fact_below t n o place fit at m in omega (arith, lt)

-- ---- an operator that is applicable is found

pub found : (t : Task) (rows : List (List ℕ)) (s : FactSet) (bits : List Bool) → IsFit t → AreWatched t (length t.ops) rows
    → ((f k : ℕ) → f < length t.facts → has s.hold f ≡ true → Member (row rows f) k → slice_get bits k ≡ Some true)
    → ((k : ℕ) → Member (row rows (length t.facts)) k → slice_get bits k ≡ Some true)
    → (k : ℕ) → can t k s ≡ true → slice_get bits k ≡ Some true
found t rows s bits fit w facts last k h = by (slice_get t.ops k) refl h
  where
    by : (o : Option Op) → slice_get t.ops k ≡ o → applicable o (has s.hold) ≡ true → slice_get bits k ≡ Some true
    by None is e = absurd (false≢true e)
    by (Some o) is e =
        let r = w.each k o (slice_get_within t.ops k o is) is in
        go o r.0 is e r.1 r.2
      where
        go : (o : Op) (place : ℕ) → slice_get t.ops k ≡ Some o → meets o.pre (has s.hold) ≡ true → (Member o.pre.yes place ⊎ (place ≡ length t.facts)) → Member (row rows place) k → slice_get bits k ≡ Some true
        go o place is e (inr same) m = last k (subst (λ p. Member (row rows p) k) same m)
        go o place is e (inl asks) m =
            let yes = (and_parts (list_all (has s.hold) o.pre.yes) _ e).0 in
            let holds = all_member (has s.hold) o.pre.yes place asks yes in
            let below = fact_below t k o place fit is asks in
            facts place k below holds m

-- one whose bit isn't set isn't applicable
pub not_found : (t : Task) (s : FactSet) (bits : List Bool) (k : ℕ) → ((k : ℕ) → can t k s ≡ true → slice_get bits k ≡ Some true) → slice_get bits k ≡ Some false → can t k s ≡ false
not_found t s bits k h off = by (can t k s) refl
  where
    by : (b : Bool) → can t k s ≡ b → can t k s ≡ false
    by false is = is
    by true is = let e = h k is in cc

-- one of two places is one of these facts, or the last place
pub asks_more : (facts : List ℕ) (last best i more : ℕ) → i < length facts → (more ≡ best) ⊎ (more ≡ get_or facts i 0) → Member facts best ⊎ (best ≡ last) → Member facts more ⊎ (more ≡ last)
asks_more facts last best i more lt (inl same) h = subst (λ p. Member facts p ⊎ (p ≡ last)) (sym same) h
asks_more facts last best i more lt (inr new) h = inl (subst (Member facts) (sym new) (member_read facts i lt))
