-- A search has an end where each state has an estimate.
use Rattle.std.proofs.Common.{◌≡◌, ◌<◌, ◌≤◌, ◌+◌, ◌-◌, ◌*◌, ◌⊎◌, ℕ, zero, suc, Bool, true, false, not, ◌||◌, List, [], ◌∷◌, ◌++◌, Option, Some, None, nat_eq, filter, length, slice_get, arith, refl, sym, ap, subst, ◌∙◌, inl, inr}
use Rattle.std.specs.List.{range_with_len}
use Rattle.std.proofs.lemmas.Bool.{cases_Bool, cases_lt, cases_eq, eq-eqb, false≢true}
use Rattle.std.proofs.lemmas.List.{length-append}
use Rattle.std.proofs.lemmas.Option.{slice_get_within, same_Some}
use Rattle.kp_base.specs.Lists.{Member}
use Rattle.kp_base.proofs.Lists.{range_there}
use Rattle.kp_classic.specs.declared.task.Task.{Task}
use Rattle.kp_classic.specs.States.{FactSet}
use Rattle.kp_search.specs.declared.found.Found.{Found}
use Rattle.kp_search.specs.declared.found.Found.TheVariants.{Plan, NoPlan, Spent}
use Rattle.kp_search.specs.Trace.{Entry, Course, first, can, step, is_goal, nothing, one_entry, entry_after, is_taken, Waits, IsNext, WasTaken, with_taken, with_expanded, Enters, IsCourse}
use Rattle.kp_search.specs.Trace.Enters.{none, off, dead, enter}
use Rattle.kp_search.specs.Trace.IsCourse.{lost, begun, passed, spread}
use Rattle.kp_search.specs.Ends.{HasEnd}
use Rattle.kp_search.specs.Estimates.{HasEstimates}
use Rattle.kp_search.specs.Laws.{gives, HasSomeEnd}

-- ---- one state or two

same_list : (xs ys : List ℕ) → (xs ≡ ys) ⊎ (xs ≡ ys → ⊥)
same_list [] [] = inl refl
same_list [] (y ∷ ys) = inr (λ e. cc)
same_list (x ∷ xs) [] = inr (λ e. cc)
same_list (x ∷ xs) (y ∷ ys) = elim (cases_eq x y) [
  | inl e ↦ elim (same_list xs ys) [
    | inl f ↦ inl (ap (λ z. z ∷ xs) e ∙ ap (λ zs. y ∷ zs) f)
    | inr f ↦ inr (λ h. f (cc))
  ]
  | inr e ↦ inr (λ h. e (cc))
]

same_state : (a b : FactSet) → (a ≡ b) ⊎ (a ≡ b → ⊥)
same_state a b = elim (cases_eq a.facts b.facts) [
  | inl e ↦ elim (same_list a.hold b.hold) [
    | inl f ↦ let make : ℕ → List ℕ → FactSet = λ n hs. record { facts = n; hold = hs } in inl (ap (λ n. make n a.hold) e ∙ ap (make b.facts) f)
    | inr f ↦ inr (λ h. f (ap (λ (s : FactSet). s.hold) h))
  ]
  | inr e ↦ inr (λ h. e (ap (λ (s : FactSet). s.facts) h))
]

-- ---- the next entry of a course

module _ (c : Course) where
  -- the entry with this number waits, or none does
  waits_or_not : (n : ℕ) → ((e : Entry) × Waits c n e) ⊎ ((e : Entry) → Waits c n e → ⊥)
  waits_or_not n = go (slice_get c.entries n) refl (is_taken c n) refl
    where
      go : (o : Option Entry) → slice_get c.entries n ≡ o → (b : Bool) → is_taken c n ≡ b → ((e : Entry) × Waits c n e) ⊎ ((e : Entry) → Waits c n e → ⊥)
      go None is b t = inr (λ e w. let h = w.there in cc)
      go (Some e) is true t = inr (λ d w. false≢true (sym w.untaken ∙ t))
      go (Some e) is false t = inl (e, record { there = is; untaken = t })

  -- the least of those with numbers below
  record IsLeast (k n : ℕ) (e : Entry) : Type 0 where
    waits : Waits c n e
    below : n < k
    least : (m : ℕ) (d : Entry) → m < k → Waits c m d → (e.estimate < d.estimate) ⊎ ((e.estimate ≡ d.estimate) × (n ≤ m))

  -- another entry, past those
  with_one : (k n : ℕ) (e d : Entry) → IsLeast k n e → Waits c k d → (m : ℕ) × (x : Entry) × IsLeast (suc k) m x
  with_one k n e d l w = elim (cases_lt d.estimate e.estimate) [
    | inl less ↦ (
      k,
      d,
      record {
        waits = w;
        below = omega arith;
        least = λ m x lt v. elim (cases_lt m k) [
          | inl under ↦ elim (l.least m x under v) [
            | inl a ↦ inl (omega (arith, less, a))
            | inr a ↦ let f = a.0 in inl (omega (arith, less, f))
          ]
          | inr over ↦ inr (ap (λ (z : Entry). z.estimate) (at m x (omega (arith, lt, over)) v), over)
        ];
      },
    )
    | inr more ↦ (
      n,
      e,
      record {
        waits = l.waits;
        below = (let b = l.below in omega (arith, b));
        least = λ m x lt v. elim (cases_lt m k) [
          | inl under ↦ l.least m x under v
          | inr over ↦ last m x more (omega (arith, lt, over)) (ap (λ (z : Entry). z.estimate) (at m x (omega (arith, lt, over)) v))
        ];
      },
    )
  ]
    where
      at : (m : ℕ) (x : Entry) → m ≡ k → Waits c m x → d ≡ x
      at m x is v = same_Some d x (sym w.there ∙ (ap (slice_get c.entries) (sym is) ∙ v.there))

      last : (m : ℕ) (x : Entry) → e.estimate ≤ d.estimate → m ≡ k → d.estimate ≡ x.estimate → (e.estimate < x.estimate) ⊎ ((e.estimate ≡ x.estimate) × (n ≤ m))
      last m x more is same = elim (cases_lt e.estimate x.estimate) [
        | inl less ↦ inl less
        | inr ge ↦ inr (omega (arith, more, ge, same), let b = l.below in omega (arith, b, is))
      ]

  least_below : (k : ℕ) → ((n : ℕ) × (e : Entry) × IsLeast k n e) ⊎ ((m : ℕ) (d : Entry) → m < k → Waits c m d → ⊥)
  least_below zero = inr (λ m d lt w. absurd (omega (arith, lt)))
  least_below (suc k) = elim (waits_or_not k) [
    | inl here ↦ elim (least_below k) [
      | inl old ↦ inl (with_one k old.0 old.1 here.0 old.2 here.1)
      | inr no_old ↦ inl (
        k,
        here.0,
        record {
          waits = here.1;
          below = omega arith;
          least = λ m d lt w. elim (cases_lt m k) [
            | inl under ↦ absurd (no_old m d under w)
            | inr over ↦ inr (ap (λ (z : Entry). z.estimate) (same_Some here.0 d (sym here.1.there ∙ (ap (slice_get c.entries) (eq k m (omega (arith, lt, over))) ∙ w.there))), over)
          ];
        },
      )
    ]
    | inr not_here ↦ elim (least_below k) [
      | inl old ↦ inl (
        old.0,
        old.1,
        record {
          waits = old.2.waits;
          below = (let b = old.2.below in omega (arith, b));
          least = λ m d lt w. elim (cases_lt m k) [
            | inl under ↦ old.2.least m d under w
            | inr over ↦ absurd (not_here d (subst (λ i. Waits c i d) (omega (arith, lt, over)) w))
          ];
        },
      )
      | inr no_old ↦ inr (λ m d lt w. elim (cases_lt m k) [
        | inl under ↦ no_old m d under w
        | inr over ↦ not_here d (subst (λ i. Waits c i d) (omega (arith, lt, over)) w)
      ])
    ]
  ]
    where
      eq : (a b : ℕ) → a ≡ b → a ≡ b
      eq a b e = e

  next_or_none : ((n : ℕ) × (e : Entry) × IsNext c n e) ⊎ ((n : ℕ) (e : Entry) → Waits c n e → ⊥)
  next_or_none = elim (least_below (length c.entries)) [
    | inl r ↦ inl (r.0, r.1, record { waits = r.2.waits; least = λ m d w. r.2.least m d (slice_get_within c.entries m d w.there) w })
    | inr never ↦ inr (λ n e w. never n e (slice_get_within c.entries n e w.there) w)
  ]

  -- the state was taken before, or not
  module _ (s : FactSet) where
    taken_here : (n : ℕ) → ((e : Entry) × (is_taken c n ≡ true) × (slice_get c.entries n ≡ Some e) × (e.state ≡ s)) ⊎ ((e : Entry) → is_taken c n ≡ true → slice_get c.entries n ≡ Some e → e.state ≡ s → ⊥)
    taken_here n = go (slice_get c.entries n) refl (is_taken c n) refl
      where
        go : (o : Option Entry) → slice_get c.entries n ≡ o → (b : Bool) → is_taken c n ≡ b
            → ((e : Entry) × (is_taken c n ≡ true) × (slice_get c.entries n ≡ Some e) × (e.state ≡ s)) ⊎ ((e : Entry) → is_taken c n ≡ true → slice_get c.entries n ≡ Some e → e.state ≡ s → ⊥)
        go None is b t = inr (λ e taken there same. cc)
        go (Some e) is false t = inr (λ d taken there same. false≢true (sym t ∙ taken))
        go (Some e) is true t = elim (same_state e.state s) [
          | inl same ↦ inl (e, t, is, same)
          | inr apart ↦ inr (λ d taken there same. apart (ap (λ (z : Entry). z.state) (same_Some e d (sym is ∙ there)) ∙ same))
        ]

    taken_below : (k : ℕ) → WasTaken c s ⊎ ((n : ℕ) (e : Entry) → n < k → is_taken c n ≡ true → slice_get c.entries n ≡ Some e → e.state ≡ s → ⊥)
    taken_below zero = inr (λ n e lt. absurd (omega (arith, lt)))
    taken_below (suc k) = elim (taken_here k) [
      | inl here ↦ inl (record { number = k; entry = here.0; taken = here.1; there = here.2; same = here.3 })
      | inr not_here ↦ elim (taken_below k) [
        | inl old ↦ inl old
        | inr no_old ↦ inr (λ n e lt taken there same. elim (cases_lt n k) [
          | inl under ↦ no_old n e under taken there same
          | inr over ↦ at n e (omega (arith, lt, over)) taken there same not_here
        ])
      ]
    ]
      where
        at : (n : ℕ) (e : Entry) → n ≡ k → is_taken c n ≡ true → slice_get c.entries n ≡ Some e → e.state ≡ s → ((d : Entry) → is_taken c k ≡ true → slice_get c.entries k ≡ Some d → d.state ≡ s → ⊥) → ⊥
        at n e is taken there same h = h e (subst (λ i. is_taken c i ≡ true) is taken) (subst (λ i. slice_get c.entries i ≡ Some e) is there) same

    taken_or_not : WasTaken c s ⊎ (WasTaken c s → ⊥)
    taken_or_not = elim (taken_below (length c.entries)) [
      | inl was ↦ inl was
      | inr never ↦ inr (λ w. never w.number w.entry (slice_get_within c.entries w.number w.entry w.there) w.taken w.there w.same)
    ]

-- ---- how many entries wait

passing_less : (p q : ℕ → Bool) → ((m : ℕ) → q m ≡ true → p m ≡ true) → (xs : List ℕ) → length (filter q xs) ≤ length (filter p xs)
passing_less p q imp [] = omega arith
passing_less p q imp (x ∷ xs) = by (q x) refl (p x) refl (passing_less p q imp xs)
  where
    by : (b : Bool) → q x ≡ b → (a : Bool) → p x ≡ a → length (filter q xs) ≤ length (filter p xs) → length (filter q (x ∷ xs)) ≤ length (filter p (x ∷ xs))
    by true f true g h = rw (f, g) (omega (arith, h))
    by true f false g h = absurd (false≢true (sym g ∙ imp x f))
    by false f true g h = rw (f, g) (omega (arith, h))
    by false f false g h = rw (f, g) h

passing_fewer : (p q : ℕ → Bool) → ((m : ℕ) → q m ≡ true → p m ≡ true) → (n : ℕ) → p n ≡ true → q n ≡ false → (xs : List ℕ) → Member xs n → length (filter q xs) < length (filter p xs)
passing_fewer p q imp n yes_n no_n [] m = absurd m
passing_fewer p q imp n yes_n no_n (x ∷ xs) (inl same) =
    let f = ap p same ∙ yes_n in
    let g = ap q same ∙ no_n in
    let h = passing_less p q imp xs in
    rw (f, g) (omega (arith, h))
passing_fewer p q imp n yes_n no_n (x ∷ xs) (inr m) = by (q x) refl (p x) refl (passing_fewer p q imp n yes_n no_n xs m)
  where
    by : (b : Bool) → q x ≡ b → (a : Bool) → p x ≡ a → length (filter q xs) < length (filter p xs) → length (filter q (x ∷ xs)) < length (filter p (x ∷ xs))
    by true f true g h = rw (f, g) (omega (arith, h))
    by true f false g h = absurd (false≢true (sym g ∙ imp x f))
    by false f true g h = rw (f, g) (omega (arith, h))
    by false f false g h = rw (f, g) h

passing_more : (p : ℕ → Bool) (a k j : ℕ) → length (filter p (range_with_len a (k + j))) ≤ length (filter p (range_with_len a k)) + j
passing_more p a zero j = at_most (range_with_len a (zero + j)) j (let h = long a (zero + j) in omega (arith, h))
  where
    long : (a n : ℕ) → length (range_with_len a n) ≤ n
    long a zero = omega arith
    long a (suc n) = let h = long (a + 1) n in omega (arith, h)

    at_most : (xs : List ℕ) (n : ℕ) → length xs ≤ n → length (filter p xs) ≤ 0 + n
    at_most [] n h = omega arith
    at_most (x ∷ xs) zero h = absurd (omega (arith, h))
    at_most (x ∷ xs) (suc n) h = by (p x) refl (at_most xs n (omega (arith, h)))
      where
        by : (b : Bool) → p x ≡ b → length (filter p xs) ≤ 0 + n → length (filter p (x ∷ xs)) ≤ 0 + suc n
        by true f g = rw f (omega (arith, g))
        by false f g = rw f (omega (arith, g))
passing_more p a (suc k) j = let e : suc (k + j) ≡ suc k + j = omega arith in subst (λ m. length (filter p (range_with_len a m)) ≤ length (filter p (range_with_len a (suc k))) + j) e (by (p a) refl (passing_more p (a + 1) k j))
  where
    by : (b : Bool) → p a ≡ b → length (filter p (range_with_len (a + 1) (k + j))) ≤ length (filter p (range_with_len (a + 1) k)) + j → length (filter p (range_with_len a (suc (k + j)))) ≤ length (filter p (range_with_len a (suc k))) + j
    by true f g = rw f (omega (arith, g))
    by false f g = rw f g

-- the entries that weren't taken
abbrev untaken : Course → ℕ
untaken c = length (filter (λ n. not (is_taken c n)) (range_with_len 0 (length c.entries)))

taken_less : (c : Course) (n : ℕ) (e : Entry) → Waits c n e → untaken (with_taken c n) < untaken c
taken_less c n e w =
    passing_fewer (λ m. not (is_taken c m)) (λ m. not (is_taken (with_taken c n) m)) (λ m. still (nat_eq m n) (is_taken c m)) n (ap not w.untaken) (ap (λ b. not (b || is_taken c n)) (eq-eqb n n refl))
    (range_with_len 0 (length c.entries)) (let lt = slice_get_within c.entries n e w.there in range_there 0 (length c.entries) n (omega arith) (omega (arith, lt)))
  where
    still : (a b : Bool) → not (a || b) ≡ true → not b ≡ true
    still true b h = absurd (false≢true h)
    still false b h = h

-- ---- courses go on or end

module _ (t : Task) (may : FactSet → Option ℕ → Type 0) (est : HasEstimates t may) where
  some_enters : (e : Entry) (k : ℕ) → (new : List Entry) × Enters t may e k new × (length new ≤ k)
  some_enters e zero = ([], none, omega arith)
  some_enters e (suc k) = go (can t k e.state) refl (est.some (step t k e.state) refl) (some_enters e k)
    where
      go : (b : Bool) → can t k e.state ≡ b → (h : Option ℕ) × may (step t k e.state) h → (new : List Entry) × Enters t may e k new × (length new ≤ k) → (more : List Entry) × Enters t may e (suc k) more × (length more ≤ suc k)
      go false is h (new, en, le) = (new, off k new en is, omega (arith, le))
      go true is (None, m) (new, en, le) = (new, dead k new en is m, omega (arith, le))
      go true is (Some v, m) (new, en, le) = (new ++ entry_after t e k v ∷ [], enter k new v en is m, let l = length-append new (entry_after t e k v ∷ []) in omega (arith, le, l))

  module _ (budget : ℕ) where
    few_expanded : (c : Course) → IsCourse t may budget c → length c.expanded ≤ budget
    few_expanded c (lost m) = omega arith
    few_expanded c (begun h m) = omega arith
    few_expanded c (passed b n e is next was) = few_expanded b is
    few_expanded c (spread b n e new is next fresh plain less enters) = let l = length-append b.expanded (n ∷ []) in omega (arith, l, less)

    -- what is left to do
    abbrev left : Course → ℕ
    left c = untaken c + (budget - length c.expanded) * (length t.ops + 1)

    abbrev GoesOn : Course → Type 0
    GoesOn c = (d : Course) × IsCourse t may budget d × (left d < left c)

    abbrev Ends : Type 0
    Ends = (f : Found) × HasEnd t may budget f

    expanded_less : (c : Course) (n : ℕ) (e : Entry) (new : List Entry) → Waits c n e → length c.expanded < budget → length new ≤ length t.ops → left (with_expanded c n new) < left c
    expanded_less c n e new w room few =
        let x = length-append c.expanded (n ∷ []) in
        let y = length-append c.entries new in
        let less = taken_less c n e w in
        let more = passing_more (λ m. not (is_taken (with_taken c n) m)) 0 (length c.entries) (length new) in
        let z = ap (λ k. length (filter (λ m. not (is_taken (with_taken c n) m)) (range_with_len 0 k))) y in
        let v = ap (λ k. (budget - k) * (length t.ops + 1)) x in
        let q = product budget (length c.expanded) (length t.ops) room in
        omega (arith, less, more, z, v, q, few)
      where
        times_suc : (a k : ℕ) → suc a * k ≡ a * k + k
        times_suc a k = grind arith

        product : (b y o : ℕ) → y < b → (b - y) * (o + 1) ≡ (b - (y + 1)) * (o + 1) + (o + 1)
        product b y o lt = let e : b - y ≡ suc (b - (y + 1)) = omega (arith, lt) in ap (λ i. i * (o + 1)) e ∙ times_suc (b - (y + 1)) (o + 1)

    new_entry : (c : Course) → IsCourse t may budget c → (n : ℕ) (e : Entry) → IsNext c n e → (WasTaken c e.state → ⊥) → Ends ⊎ GoesOn c
    new_entry c is n e next fresh = elim (cases_Bool (is_goal t e.state)) [
      | inl goal ↦ inl (Plan e.ops (length c.expanded), record { course = c; is = is; number = n; entry = e; next = next; new = fresh; goal = goal; ops_are = refl; expanded_are = refl })
      | inr plain ↦ elim (cases_lt (length c.expanded) budget) [
        | inl room ↦
            let r = some_enters e (length t.ops) in
            inr (with_expanded c n r.0, spread c n e r.0 is next fresh plain room r.1, expanded_less c n e r.0 next.waits room r.2)
        | inr full ↦ inl (Spent budget, record { course = c; is = is; number = n; entry = e; next = next; new = fresh; goal = plain; full = (let few = few_expanded c is in omega (arith, full, few)); expanded_are = refl })
      ]
    ]

    goes_on : (c : Course) → IsCourse t may budget c → Ends ⊎ GoesOn c
    goes_on c is = elim (next_or_none c) [
      | inr empty ↦ inl (NoPlan, record { course = c; is = is; empty = empty })
      | inl (n, e, next) ↦ elim (taken_or_not c e.state) [
        | inl was ↦ inr (with_taken c n, passed c n e is next was, (let less = taken_less c n e next.waits in omega (arith, less)))
        | inr fresh ↦ new_entry c is n e next fresh
      ]
    ]

    ends : (fuel : ℕ) (c : Course) → IsCourse t may budget c → left c ≤ fuel → Ends
    ends zero c is le = elim (goes_on c is) [
      | inl end ↦ end
      | inr (d, is_d, less) ↦ absurd (omega (arith, le, less))
    ]
    ends (suc fuel) c is le = elim (goes_on c is) [
      | inl end ↦ end
      | inr (d, is_d, less) ↦ ends fuel d is_d (omega (arith, le, less))
    ]

    pub some_end : (f : Found) × HasEnd t may budget f
    some_end = go (est.some (first t) refl)
      where
        go : (h : Option ℕ) × may (first t) h → Ends
        go (None, m) = ends (left nothing) nothing (lost m) (omega arith)
        go (Some h, m) = ends (left (one_entry (first t) h)) (one_entry (first t) h) (begun h m) (omega arith)

pub has_some_end : HasSomeEnd
has_some_end t h budget = some_end t (gives h) (record { some = λ s same. (h s, refl) }) budget
