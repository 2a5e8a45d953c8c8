-- What the search keeps of a course: an entry taken, and an entry expanded.
use Rattle.std.proofs.Common.{◌≡◌, ◌<◌, ◌≤◌, ◌+◌, ◌⊎◌, ℕ, Bool, true, false, not, ◌&&◌, ◌||◌, cond, if◌then◌else◌, [], ◌∷◌, ◌++◌, Some, nat_eq, length, slice_get, arith, refl, sym, ap, subst, ◌∙◌, inl, inr}
use Rattle.std.proofs.lemmas.Bool.{and_from, or_cases, eqb-true, eq-eqb, false≢true, and_right}
use Rattle.std.proofs.lemmas.Option.{slice_get_within, same_Some}
use Rattle.std.proofs.lemmas.List.{length-append, append-nil}
use Rattle.kp_base.proofs.Places.{get_left}
use Rattle.kp_classic.specs.declared.task.Task.{Task}
use Rattle.kp_search.specs.declared.course.Origin.{Origin}
use Rattle.kp_search.specs.declared.course.Origin.TheVariants.{Start, Step}
use Rattle.kp_search.specs.declared.key.Key.{Key}
use Rattle.kp_search.specs.declared.course.Search.{Search}
use Rattle.kp_search.specs.Queue.{same_key, times, IsBefore}
use Rattle.kp_search.specs.Trace.{Entry, Course, is_taken, Waits, IsNext, with_taken, with_expanded}
use Rattle.kp_search.specs.Kept.{ComesFrom, fits_key, waits, Keeps, Pops, Expands}
use Rattle.kp_search.proofs.Keys.{key_same}
use Rattle.kp_search.proofs.Slices.{slice_last, slice_parts}
use Rattle.kp_search.proofs.Kept.{waits_is, waits_from}

-- how often a key stands in the queue, by whether it waits
one_if : (b : Bool) (n : ℕ) → n ≡ (if b then 1 else 0) → 0 < n → b ≡ true
one_if true n e h = refl
one_if false n e h = absurd (omega (arith, e, h))

if_one : (b : Bool) (n : ℕ) → n ≡ (if b then 1 else 0) → b ≡ true → n ≡ 1
if_one true n e h = e
if_one false n e h = absurd (false≢true h)

-- the key that comes out waits
popped_waits : (t : Task) (c : Course) (s s' : Search) (key : Key) → Keeps t c s → Pops s key s' → waits c key ≡ true
popped_waits t c s s' key k p =
    let e = p.first.leaves key in
    let w = k.waiting key in
    let same : same_key key key ≡ true = and_from (nat_eq key.estimate key.estimate) (nat_eq key.number key.number) (eq-eqb key.estimate key.estimate refl) (eq-eqb key.number key.number refl) in
    let f = ap (λ b. cond b 1 0 + times s'.waiting key) same in
    one_if (waits c key) (times s.waiting key) w (omega (arith, e, f))

-- and its entry is the next
pub popped_next : (t : Task) (c : Course) (s s' : Search) (key : Key) → Keeps t c s → Pops s key s' → (e : Entry) × IsNext c key.number e × (e.estimate ≡ key.estimate)
popped_next t c s s' key k p =
    let r = waits_is c key (popped_waits t c s s' key k p) in (
      r.0,
      record {
        waits = r.1;
        least = λ m d w. subst (λ h. (h < d.estimate) ⊎ ((h ≡ d.estimate) × (key.number ≤ m))) (sym r.2) (before m d w);
      },
      r.2,
    )
  where
    before : (m : ℕ) (d : Entry) → Waits c m d → (key.estimate < d.estimate) ⊎ ((key.estimate ≡ d.estimate) × (key.number ≤ m))
    before m d w =
        let y : Key = record { estimate = d.estimate; number = m } in
        let old : times s.waiting y ≡ 1 = if_one (waits c y) (times s.waiting y) (k.waiting y) (waits_from c m d w) in
        let left = p.first.leaves y in
        pick y (same_key y key) refl (left, old)
      where
        pick : (y : Key) (b : Bool) → same_key y key ≡ b → (times s.waiting y ≡ (if same_key y key then 1 else 0) + times s'.waiting y) × (times s.waiting y ≡ 1) → IsBefore key y
        pick y true is (l, o) = let e = key_same y key is in inr (ap (λ z. z.estimate) (sym e), let n = ap (λ (z : Key). z.number) e in omega (arith, n))
        pick y false is (l, o) = p.first.first y (let f = ap (λ b. cond b 1 0 + times s'.waiting y) is in omega (arith, l, o, f))

-- what is kept is what the course is with that entry taken
pub keeps_popped : (t : Task) (c : Course) (s s' : Search) (key : Key) → Keeps t c s → Pops s key s' → Keeps t (with_taken c key.number) s'
keeps_popped t c s s' key k p = record {
  long = ap length p.origins ∙ k.long;
  origins = λ n e h. let r = k.origins n e h in (r.0, ap (λ xs. slice_get xs n) p.origins ∙ r.1, same_origin n e r.0 r.2);
  waiting = waiting;
  expanded = p.expanded ∙ k.expanded;
  facts = ap (λ x. x.facts) p.table ∙ k.facts;
  tables = ap (λ x. length x.states) p.table ∙ k.tables;
  states = λ i n e x y. ap (λ z. slice_get z.states i) p.table ∙ k.states i n e x y;
  taken = λ n h. elim (or_cases (nat_eq n key.number) (is_taken c n) h) [
    | inl e ↦ subst (λ m. m < length c.entries) (sym (eqb-true n key.number e)) there
    | inr e ↦ k.taken n e
  ];
  within = k.within;
}
  where
    there : key.number < length c.entries
    there = let r = waits_is c key (popped_waits t c s s' key k p) in slice_get_within c.entries key.number r.0 r.1.there

    same_origin : (n : ℕ) (e : Entry) (o : Origin) → ComesFrom t c n e o → ComesFrom t (with_taken c key.number) n e o
    same_origin n e Start h = h
    same_origin n e (Step i op) h = h

    waiting : (y : Key) → times s'.waiting y ≡ (if waits (with_taken c key.number) y then 1 else 0)
    waiting y = by (nat_eq y.number key.number) refl (waits c y) refl (k.waiting y) (p.first.leaves y)
      where
        by : (b : Bool) → nat_eq y.number key.number ≡ b → (w : Bool) → waits c y ≡ w → times s.waiting y ≡ (if waits c y then 1 else 0)
            → times s.waiting y ≡ (if same_key y key then 1 else 0) + times s'.waiting y → times s'.waiting y ≡ (if waits (with_taken c key.number) y then 1 else 0)
        by true is true old e f =
            let one = popped_waits t c s s' key k p in
            let a = waits_is c y old in
            let b = waits_is c key one in
            let n : y.number ≡ key.number = eqb-true y.number key.number is in
            let same : a.0 ≡ b.0 = same_Some a.0 b.0 (sym a.1.there ∙ (ap (slice_get c.entries) n ∙ b.1.there)) in
            let h : y.estimate ≡ key.estimate = sym a.2 ∙ (ap (λ (x : Entry). x.estimate) same ∙ b.2) in
            let key_is : same_key y key ≡ true = and_from (nat_eq y.estimate key.estimate) (nat_eq y.number key.number) (eq-eqb y.estimate key.estimate h) is in
            let g = ap (λ b. cond b 1 0 + times s'.waiting y) key_is in
            let e' = ap {B = ℕ} (λ b. cond b 1 0) old in
            let gone = ap {B = ℕ} (λ b. cond (fits_key (slice_get c.entries y.number) y.estimate && not (b || is_taken c y.number)) 1 0) is in
            let none = ap {B = ℕ} (λ b. cond b 1 0) (and_right (fits_key (slice_get c.entries y.number) y.estimate) false refl) in
            omega (arith, e, e', f, g) ∙ sym (gone ∙ none)
        by true is false old e f =
            let e' = ap {B = ℕ} (λ b. cond b 1 0) old in
            let gone = ap {B = ℕ} (λ b. cond (fits_key (slice_get c.entries y.number) y.estimate && not (b || is_taken c y.number)) 1 0) is in
            let none = ap {B = ℕ} (λ b. cond b 1 0) (and_right (fits_key (slice_get c.entries y.number) y.estimate) false refl) in
            omega (arith, e, e', f) ∙ sym (gone ∙ none)
        by false is w old e f =
            let apart : same_key y key ≡ false = and_right (nat_eq y.estimate key.estimate) (nat_eq y.number key.number) is in
            let g = ap (λ b. cond b 1 0 + times s'.waiting y) apart in
            let same = ap {B = ℕ} (λ b. cond (fits_key (slice_get c.entries y.number) y.estimate && not (b || is_taken c y.number)) 1 0) is in
            omega (arith, e, f, g) ∙ sym same

-- ---- an entry expanded

expand_origin : (t : Task) (c : Course) (m n : ℕ) (e : Entry) (o : Origin) → ComesFrom t (with_taken c m) n e o → ComesFrom t (record { entries = c.entries; taken = m ∷ c.taken; expanded = c.expanded ++ m ∷ [] }) n e o
expand_origin t c m n e Start h = h
expand_origin t c m n e (Step k op) (j, d, a, b, r, q, x, y) = (j, d, get_left c.expanded (m ∷ []) k j a, b, r, q, x, y)

pub keeps_expanded : (t : Task) (c : Course) (s s' : Search) (key : Key) (e : Entry) → Keeps t (with_taken c key.number) s → slice_get c.entries key.number ≡ Some e → Expands s key e.state s' → Keeps t (with_expanded c key.number []) s'
keeps_expanded t c s s' key e k there x = let n = key.number in subst (λ es. Keeps t (record { entries = es; taken = n ∷ c.taken; expanded = c.expanded ++ n ∷ [] }) s') (sym (append-nil c.entries)) (record {
  long = ap length x.origins ∙ k.long;
  origins = λ m d h. let r = k.origins m d h in (r.0, ap (λ xs. slice_get xs m) x.origins ∙ r.1, expand_origin t c n m d r.0 r.2);
  waiting = λ y. ap (λ w. times w y) x.waiting ∙ k.waiting y;
  expanded = x.expanded ∙ ap (λ xs. xs ++ n ∷ []) k.expanded;
  facts = x.facts ∙ k.facts;
  tables = ap length x.states ∙ (length-append s.table.states (e.state ∷ []) ∙ (ap (λ m. m + 1) k.tables ∙ sym (length-append c.expanded (n ∷ []))));
  states = λ i m d a b. elim (slice_parts c.expanded n i m a) [
    | inl h ↦ ap (λ xs. slice_get xs i) x.states ∙ get_left s.table.states (e.state ∷ []) i d.state (k.states i m d h b)
    | inr h ↦
        let same : e ≡ d = same_Some e d (sym there ∙ (ap (slice_get c.entries) (sym h.1) ∙ b)) in
        ap (λ xs. slice_get xs i) x.states ∙ (ap (slice_get (s.table.states ++ e.state ∷ [])) (h.0 ∙ sym k.tables) ∙ (slice_last s.table.states e.state ∙ ap (λ (z : Entry). Some z.state) same))
  ];
  taken = k.taken;
  within = λ i m h. elim (slice_parts c.expanded n i m h) [
    | inl g ↦ k.within i m g
    | inr g ↦ subst (λ j. j < length c.entries) (sym g.1) (slice_get_within c.entries n e there)
  ];
})
