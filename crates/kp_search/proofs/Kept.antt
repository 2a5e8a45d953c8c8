-- What the search keeps of a course: an entry more, an entry taken, an entry expanded.
use Rattle.std.proofs.Common.{◌≡◌, ◌<◌, ◌+◌, ℕ, Bool, true, false, not, ◌&&◌, cond, if◌then◌else◌, [], ◌∷◌, ◌++◌, Option, Some, None, nat_eq, length, slice_get, arith, refl, sym, ap, subst, ◌∙◌, inl, inr}
use Rattle.std.proofs.lemmas.Bool.{and_parts, and_from, eqb-true, eq-eqb, ne_eqb, not-true, cases_eq, false≢true, and_left, and_right}
use Rattle.std.proofs.lemmas.Option.{slice_get_past}
use Rattle.std.proofs.lemmas.List.{length-append}
use Rattle.kp_base.proofs.Places.{get_left}
use Rattle.kp_classic.specs.declared.task.Task.{Task}
use Rattle.kp_search.specs.declared.course.Origin.{Origin}
use Rattle.kp_search.specs.declared.course.Origin.TheVariants.{Start, Step}
use Rattle.kp_search.specs.declared.key.Key.{Key}
use Rattle.kp_search.specs.declared.course.Search.{Search}
use Rattle.kp_search.specs.Queue.{same_key, times}
use Rattle.kp_search.specs.Trace.{Entry, Course, is_taken, Waits}
use Rattle.kp_search.specs.Kept.{Adds, ComesFrom, fits_key, waits, Keeps}
use Rattle.kp_search.proofs.Slices.{slice_last, slice_pushed, slice_parts}

one : Bool → ℕ
one b = cond b 1 0

-- ---- keys that wait

fits_is : (e : Option Entry) (h : ℕ) → fits_key e h ≡ true → (x : Entry) × (e ≡ Some x) × (x.estimate ≡ h)
fits_is None h f = absurd (false≢true f)
fits_is (Some x) h f = (x, refl, eqb-true x.estimate h f)

pub waits_is : (c : Course) (y : Key) → waits c y ≡ true → (e : Entry) × Waits c y.number e × (e.estimate ≡ y.estimate)
waits_is c y h =
    let parts = and_parts (fits_key (slice_get c.entries y.number) y.estimate) (not (is_taken c y.number)) h in
    let f = fits_is (slice_get c.entries y.number) y.estimate parts.0 in
    (f.0, record { there = f.1; untaken = not-true (is_taken c y.number) parts.1 }, f.2)

pub waits_from : (c : Course) (n : ℕ) (e : Entry) → Waits c n e → waits c (record { estimate = e.estimate; number = n }) ≡ true
waits_from c n e w =
    and_from (fits_key (slice_get c.entries n) e.estimate) (not (is_taken c n))
    (ap (λ o. fits_key o e.estimate) w.there ∙ eq-eqb e.estimate e.estimate refl)
    (ap not w.untaken)

-- ---- one more entry

more_origin : (t : Task) (c : Course) (new : Entry) (n : ℕ) (e : Entry) (o : Origin) → ComesFrom t c n e o → ComesFrom t (record { entries = c.entries ++ new ∷ []; taken = c.taken; expanded = c.expanded }) n e o
more_origin t c new n e Start h = h
more_origin t c new n e (Step k op) (m, d, a, b, r, q, x, y) = (m, d, a, get_left c.entries (new ∷ []) m d b, r, q, x, y)

waits_more : (c : Course) (e : Entry) (taken_in : (n : ℕ) → is_taken c n ≡ true → n < length c.entries) (y : Key)
    → (if same_key y (record { estimate = e.estimate; number = length c.entries }) then 1 else 0) + (if waits c y then 1 else 0)
    ≡ (if waits (record { entries = c.entries ++ e ∷ []; taken = c.taken; expanded = c.expanded }) y then 1 else 0)
waits_more c e taken_in y = elim (cases_eq y.number (length c.entries)) [
  | inl here ↦
      let old : waits c y ≡ false = and_left (fits_key (slice_get c.entries y.number) y.estimate) (not (is_taken c y.number)) (ap (λ o. fits_key o y.estimate) (slice_get_past c.entries y.number (omega (arith, here)))) in
      let untaken : is_taken c y.number ≡ false = not_there (is_taken c y.number) (λ h. let lt = taken_in y.number h in absurd (omega (arith, lt, here))) in
      let found : slice_get (c.entries ++ e ∷ []) y.number ≡ Some e = subst (λ n. slice_get (c.entries ++ e ∷ []) n ≡ Some e) (sym here) (slice_last c.entries e) in
      let key : same_key y (record { estimate = e.estimate; number = length c.entries }) ≡ nat_eq y.estimate e.estimate = ap (λ b. nat_eq y.estimate e.estimate && b) (eq-eqb y.number (length c.entries) here) ∙ and_true (nat_eq y.estimate e.estimate) in
      let new : waits (record { entries = c.entries ++ e ∷ []; taken = c.taken; expanded = c.expanded }) y ≡ nat_eq e.estimate y.estimate =
      ap (λ o. fits_key o y.estimate && not (is_taken c y.number)) found ∙ (ap (λ b. nat_eq e.estimate y.estimate && not b) untaken ∙ and_true (nat_eq e.estimate y.estimate)) in
      add_none _ _ _ _ (key ∙ turned y.estimate e.estimate) old new
  | inr apart ↦
      let key : same_key y (record { estimate = e.estimate; number = length c.entries }) ≡ false = and_right (nat_eq y.estimate e.estimate) (nat_eq y.number (length c.entries)) (ne_eqb y.number (length c.entries) apart) in
      let same : waits (record { entries = c.entries ++ e ∷ []; taken = c.taken; expanded = c.expanded }) y ≡ waits c y = ap (λ o. fits_key o y.estimate && not (is_taken c y.number)) (slice_pushed c.entries e y.number apart) in
      add_same _ _ _ key same
]
  where
    not_there : (b : Bool) → (b ≡ true → ⊥) → b ≡ false
    not_there true h = absurd (h refl)
    not_there false h = refl

    and_true : (b : Bool) → (b && true) ≡ b
    and_true true = refl
    and_true false = refl

    turned : (a b : ℕ) → nat_eq a b ≡ nat_eq b a
    turned a b = elim (cases_eq a b) [
      | inl e ↦ eq-eqb a b e ∙ sym (eq-eqb b a (sym e))
      | inr f ↦ ne_eqb a b f ∙ sym (ne_eqb b a (λ e. f (sym e)))
    ]

    add_none : (k w v b : Bool) → k ≡ b → w ≡ false → v ≡ b → (if k then 1 else 0) + (if w then 1 else 0) ≡ (if v then 1 else 0)
    add_none k w v true e f g = rw (e, f, g) refl
    add_none k w v false e f g = rw (e, f, g) refl

    add_same : (k w v : Bool) → k ≡ false → v ≡ w → (if k then 1 else 0) + (if w then 1 else 0) ≡ (if v then 1 else 0)
    add_same k true v e f = rw (e, f) refl
    add_same k false v e f = rw (e, f) refl

pub keeps_added : (t : Task) (c : Course) (s s' : Search) (e : Entry) (o : Origin) → Keeps t c s → Adds s o e.estimate s' → ComesFrom t c (length c.entries) e o → Keeps t (record { entries = c.entries ++ e ∷ []; taken = c.taken; expanded = c.expanded }) s'
keeps_added t c s s' e o k a from = record {
  long = ap length a.origins ∙ (length-append s.origins.items (o ∷ []) ∙ (ap (λ n. n + 1) k.long ∙ sym (length-append c.entries (e ∷ []))));
  origins = origins;
  waiting = λ y. a.waiting y ∙ (ap (λ n. (if same_key y (record { estimate = e.estimate; number = n }) then 1 else 0) + times s.waiting y) k.long
      ∙ (ap (λ n. (if same_key y (record { estimate = e.estimate; number = length c.entries }) then 1 else 0) + n) (k.waiting y) ∙ waits_more c e k.taken y));
  expanded = a.expanded ∙ k.expanded;
  facts = ap (λ x. x.facts) a.table ∙ k.facts;
  tables = ap (λ x. length x.states) a.table ∙ k.tables;
  states = λ i n d x y. ap (λ z. slice_get z.states i) a.table ∙ k.states i n d x (in_old n d (k.within i n x) y);
  taken = λ n h. let lt = k.taken n h in let l = length-append c.entries (e ∷ []) in omega (arith, lt, l);
  within = λ i n h. let lt = k.within i n h in let l = length-append c.entries (e ∷ []) in omega (arith, lt, l);
}
  where
    in_old : (n : ℕ) (d : Entry) → n < length c.entries → slice_get (c.entries ++ e ∷ []) n ≡ Some d → slice_get c.entries n ≡ Some d
    in_old n d lt h = elim (slice_parts c.entries e n d h) [
      | inl g ↦ g
      | inr g ↦ absurd (omega (arith, lt, g.0))
    ]

    origins : (n : ℕ) (d : Entry) → slice_get (c.entries ++ e ∷ []) n ≡ Some d → (p : Origin) × (slice_get s'.origins.items n ≡ Some p) × ComesFrom t (record { entries = c.entries ++ e ∷ []; taken = c.taken; expanded = c.expanded }) n d p
    origins n d h = elim (slice_parts c.entries e n d h) [
      | inl g ↦
          let r = k.origins n d g in
          (r.0, ap (λ xs. slice_get xs n) a.origins ∙ get_left s.origins.items (o ∷ []) n r.0 r.1, more_origin t c e n d r.0 r.2)
      | inr g ↦ (
        o,
        ap (λ xs. slice_get xs n) a.origins ∙ (ap (slice_get (s.origins.items ++ o ∷ [])) (g.0 ∙ sym k.long) ∙ slice_last s.origins.items o),
        more_origin t c e n d o (subst (λ x. ComesFrom t c n x o) (sym g.1) (subst (λ m. ComesFrom t c m e o) (sym g.0) from)),
      )
    ]
