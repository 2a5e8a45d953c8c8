-- What holds of each course, and of its ends.
use Rattle.std.proofs.Common.{◌≡◌, ◌<◌, ◌+◌, ◌⊎◌, ℕ, suc, true, false, List, [], ◌∷◌, ◌++◌, Option, Some, None, nat_eq, length, slice_get, arith, refl, sym, ap, subst, ◌∙◌, inl, inr}
use Rattle.std.proofs.lemmas.Bool.{or_cases, or_left, or_right, eqb-true, eq-eqb, false≢true, cases_Bool, cases_eq}
use Rattle.std.proofs.lemmas.Option.{slice_get_within, same_Some}
use Rattle.std.proofs.lemmas.List.{length-append}
use Rattle.kp_base.proofs.Places.{get_left}
use Rattle.kp_classic.specs.declared.task.Task.{Task}
use Rattle.kp_classic.specs.Fits.{IsFit}
use Rattle.kp_classic.specs.States.{FactSet, has}
use Rattle.kp_classic.specs.Steps.{start, succeeds}
use Rattle.kp_search.specs.Trace.{Entry, Course, first, can, step, is_goal, entry_after, is_taken, Waits, IsNext, WasTaken, with_taken, with_expanded, Enters, IsCourse}
use Rattle.kp_search.specs.Trace.Enters.{none, off, dead, enter}
use Rattle.kp_search.specs.Trace.IsCourse.{lost, begun, passed, spread}
use Rattle.kp_search.specs.Sound.{Entered, Expanded, IsLed, IsSoundCourse}
use Rattle.kp_search.proofs.Slices.{slice_last, slice_parts, slice_right, slice_split}
use Rattle.kp_search.proofs.States.{led_first, led_on, can_within, plan_of_first, plan_of_step}

module _ (t : Task) (fit : IsFit t) (may : FactSet → Option ℕ → Type 0) where
  enters_lead : (e : Entry) (k : ℕ) (new : List Entry) → Enters t may e k new → IsLed t e.ops e.state → (n : ℕ) (d : Entry) → slice_get new n ≡ Some d → IsLed t d.ops d.state
  enters_lead e k new none l n d h = cc
  enters_lead e k new (off j old r c) l n d h = enters_lead e j old r l n d h
  enters_lead e k new (dead j old r c m) l n d h = enters_lead e j old r l n d h
  enters_lead e k new (enter j old v r c m) l n d h = elim (slice_parts old (entry_after t e j v) n d h) [
    | inl g ↦ enters_lead e j old r l n d g
    | inr g ↦ subst (λ (x : Entry). IsLed t x.ops x.state) (sym g.1) (led_on t fit e.ops e.state j l c)
  ]

  -- each applicable operator's state was entered, or is hopeless
  enters_all : (e : Entry) (k : ℕ) (new : List Entry) → Enters t may e k new → (op : ℕ) → op < k → can t op e.state ≡ true → may (step t op e.state) None ⊎ ((n : ℕ) × (d : Entry) × (slice_get new n ≡ Some d) × (d.state ≡ step t op e.state))
  enters_all e k new none op lt c = absurd (omega (arith, lt))
  enters_all e k new (off j old r cannot) op lt c = elim (cases_eq op j) [
    | inl here ↦ absurd (false≢true (sym cannot ∙ subst (λ i. can t i e.state ≡ true) here c))
    | inr apart ↦ enters_all e j old r op (below op j lt apart) c
  ]
    where
      below : (a b : ℕ) → a < suc b → (a ≡ b → ⊥) → a < b
      below a b lt ne = omega (arith, lt, ne)
  enters_all e k new (dead j old r can_it m) op lt c = elim (cases_eq op j) [
    | inl here ↦ inl (subst (λ i. may (step t i e.state) None) (sym here) m)
    | inr apart ↦ enters_all e j old r op (below op j lt apart) c
  ]
    where
      below : (a b : ℕ) → a < suc b → (a ≡ b → ⊥) → a < b
      below a b lt ne = omega (arith, lt, ne)
  enters_all e k new (enter j old v r can_it m) op lt c = elim (cases_eq op j) [
    | inl here ↦ inr (length old, entry_after t e j v, slice_last old _, ap (λ i. step t i e.state) (sym here))
    | inr apart ↦ elim (enters_all e j old r op (below op j lt apart) c) [
      | inl g ↦ inl g
      | inr g ↦ inr (g.0, g.1, get_left old _ g.0 g.1 g.2, g.3)
    ]
  ]
    where
      below : (a b : ℕ) → a < suc b → (a ≡ b → ⊥) → a < b
      below a b lt ne = omega (arith, lt, ne)

  -- ---- a state that is expanded stays so, and one that was entered too

  expanded_stays : (c : Course) (n : ℕ) (new : List Entry) (k : ℕ) (s : FactSet) → Expanded c k s → Expanded (with_expanded c n new) k s
  expanded_stays c n new k s (m, d, a, b, e) = (m, d, get_left c.expanded (n ∷ []) k m a, get_left c.entries new m d b, e)

  entered_stays : (c : Course) (n : ℕ) (new : List Entry) (s : FactSet) → Entered c s → Entered (with_expanded c n new) s
  entered_stays c n new s (m, d, b, e) = (m, d, get_left c.entries new m d b, e)

  -- what is expanded then was so before, or is the new one
  expanded_was : (c : Course) (inside : (n : ℕ) → is_taken c n ≡ true → n < length c.entries) (all : (k m : ℕ) → slice_get c.expanded k ≡ Some m → is_taken c m ≡ true)
      (n : ℕ) (e : Entry) (new : List Entry) → slice_get c.entries n ≡ Some e → (k : ℕ) (s : FactSet) → Expanded (with_expanded c n new) k s → Expanded c k s ⊎ ((k ≡ length c.expanded) × (e.state ≡ s))
  expanded_was c inside all n e new there k s (m, d, a, b, f) = elim (slice_parts c.expanded n k m a) [
    | inl g ↦ inl (m, d, g, old_entry m d (inside m (all k m g)) b, f)
    | inr g ↦ inr (g.0, ap (λ (z : Entry). z.state) (same_Some e d (sym (get_left c.entries new n e there) ∙ (ap (slice_get (c.entries ++ new)) (sym g.1) ∙ b))) ∙ f)
  ]
    where
      old_entry : (m : ℕ) (d : Entry) → m < length c.entries → slice_get (c.entries ++ new) m ≡ Some d → slice_get c.entries m ≡ Some d
      old_entry m d lt h = elim (slice_split c.entries new m d h) [
        | inl g ↦ g
        | inr g ↦ let at = g.1 in absurd (omega (arith, lt, at))
      ]

  -- ---- each course

  passed_sound : (budget : ℕ) (c : Course) (n : ℕ) (e : Entry) → IsSoundCourse t may budget c → IsNext c n e → WasTaken c e.state → IsSoundCourse t may budget (with_taken c n)
  passed_sound budget c n e s next was = record {
    inside = λ m h. elim (or_cases (nat_eq m n) (is_taken c m) h) [
      | inl g ↦ subst (λ i. i < length c.entries) (sym (eqb-true m n g)) (slice_get_within c.entries n e next.waits.there)
      | inr g ↦ s.inside m g
    ];
    expanded = λ k m h. or_right (nat_eq m n) (is_taken c m) (s.expanded k m h);
    few = s.few;
    reached = s.reached;
    taken = λ m d h there. elim (or_cases (nat_eq m n) (is_taken c m) h) [
      | inl g ↦
          let same : e ≡ d = same_Some e d (sym next.waits.there ∙ (ap (slice_get c.entries) (sym (eqb-true m n g)) ∙ there)) in
          let r = s.taken was.number was.entry was.taken was.there in
          (r.0, subst (Expanded c r.0) (was.same ∙ ap (λ (z : Entry). z.state) same) r.1)
      | inr g ↦ s.taken m d g there
    ];
    begun = s.begun;
    no_goal = s.no_goal;
    closed = s.closed;
    apart = s.apart;
  }

  spread_sound : (budget : ℕ) (c : Course) (n : ℕ) (e : Entry) (new : List Entry) → IsSoundCourse t may budget c → IsNext c n e → (WasTaken c e.state → ⊥) → is_goal t e.state ≡ false
      → length c.expanded < budget → Enters t may e (length t.ops) new → IsSoundCourse t may budget (with_expanded c n new)
  spread_sound budget c n e new s next fresh plain less enters = record {
    inside = λ m h. let l = length-append c.entries new in elim (or_cases (nat_eq m n) (is_taken c m) h) [
      | inl g ↦ let i = eqb-true m n g in let w = slice_get_within c.entries n e next.waits.there in omega (arith, i, w, l)
      | inr g ↦ let w = s.inside m g in omega (arith, w, l)
    ];
    expanded = λ k m h. elim (slice_parts c.expanded n k m h) [
      | inl g ↦ or_right (nat_eq m n) (is_taken c m) (s.expanded k m g)
      | inr g ↦ or_left (nat_eq m n) (is_taken c m) (eq-eqb m n g.1)
    ];
    few = let l = length-append c.expanded (n ∷ []) in let f = less in omega (arith, l, f);
    reached = λ m d h. elim (slice_split c.entries new m d h) [
      | inl g ↦ s.reached m d g
      | inr g ↦ enters_lead e (length t.ops) new enters (s.reached n e next.waits.there) g.0 d g.2
    ];
    taken = λ m d h there. elim (or_cases (nat_eq m n) (is_taken c m) h) [
      | inl g ↦ (length c.expanded, (n, d, slice_last c.expanded n, subst (λ i. slice_get (c.entries ++ new) i ≡ Some d) (eqb-true m n g) there, refl))
      | inr g ↦
          let r = s.taken m d g (old_entry m d (s.inside m g) there) in
          (r.0, expanded_stays c n new r.0 d.state r.1)
    ];
    begun = elim s.begun [
      | inl g ↦ inl g
      | inr g ↦ inr (entered_stays c n new (first t) g)
    ];
    no_goal = λ k x h. elim (expanded_was c s.inside s.expanded n e new next.waits.there k x h) [
      | inl g ↦ s.no_goal k x g
      | inr g ↦ subst (λ z. is_goal t z ≡ false) g.1 plain
    ];
    closed = λ k x h op lt can_it. elim (expanded_was c s.inside s.expanded n e new next.waits.there k x h) [
      | inl g ↦ elim (s.closed k x g op lt can_it) [
        | inl f ↦ inl f
        | inr f ↦ inr (entered_stays c n new (step t op x) f)
      ]
      | inr g ↦ elim (enters_all e (length t.ops) new enters op lt (subst (λ z. can t op z ≡ true) (sym g.1) can_it)) [
        | inl f ↦ inl (subst (λ z. may (step t op z) None) g.1 f)
        | inr f ↦ inr (length c.entries + f.0, f.1, slice_right c.entries new f.0 ∙ f.2, f.3 ∙ ap (step t op) g.1)
      ]
    ];
    apart = λ j k x a b. elim (expanded_was c s.inside s.expanded n e new next.waits.there j x a) [
      | inl f ↦ elim (expanded_was c s.inside s.expanded n e new next.waits.there k x b) [
        | inl g ↦ s.apart j k x f g
        | inr g ↦ absurd (fresh (was j x f g.1))
      ]
      | inr f ↦ elim (expanded_was c s.inside s.expanded n e new next.waits.there k x b) [
        | inl g ↦ absurd (fresh (was k x g f.1))
        | inr g ↦ f.0 ∙ sym g.0
      ]
    ];
  }
    where
      old_entry : (m : ℕ) (d : Entry) → m < length c.entries → slice_get (c.entries ++ new) m ≡ Some d → slice_get c.entries m ≡ Some d
      old_entry m d lt h = elim (slice_split c.entries new m d h) [
        | inl g ↦ g
        | inr g ↦ let at = g.1 in absurd (omega (arith, lt, at))
      ]

      was : (k : ℕ) (x : FactSet) → Expanded c k x → e.state ≡ x → WasTaken c e.state
      was k x (m, d, a, b, f) g = record { number = m; entry = d; taken = s.expanded k m a; there = b; same = f ∙ sym g }

  pub sound : (budget : ℕ) (c : Course) → IsCourse t may budget c → IsSoundCourse t may budget c
  sound budget c (lost m) = record {
    inside = λ n h. absurd (false≢true h);
    expanded = λ k m h. cc;
    few = omega arith;
    reached = λ n e h. cc;
    taken = λ n e h _. absurd (false≢true h);
    begun = inl m;
    no_goal = λ k s h. let g = h.2 in cc;
    closed = λ k s h. let g = h.2 in cc;
    apart = λ j k s h _. let g = h.2 in cc;
  }
  sound budget c (begun v m) = record {
    inside = λ n h. absurd (false≢true h);
    expanded = λ k m h. cc;
    few = omega arith;
    reached = λ n e h. elim (slice_parts [] (record { state = first t; estimate = v; ops = [] }) n e h) [
      | inl g ↦ cc
      | inr g ↦ subst (λ (x : Entry). IsLed t x.ops x.state) (sym g.1) (led_first t)
    ];
    taken = λ n e h _. absurd (false≢true h);
    begun = inr (0, record { state = first t; estimate = v; ops = [] }, refl, refl);
    no_goal = λ k s h. let g = h.2 in cc;
    closed = λ k s h. let g = h.2 in cc;
    apart = λ j k s h _. let g = h.2 in cc;
  }
  sound budget c (passed b n e is next was) = passed_sound budget b n e (sound budget b is) next was
  sound budget c (spread b n e new is next fresh plain less enters) = spread_sound budget b n e new (sound budget b is) next fresh plain less enters

  -- ---- where no entry waits

  -- no expanded state leads to the goal
  module _ (right : (s : FactSet) → s.facts ≡ length t.facts → may s None → (ks : List ℕ) → succeeds t (has s.hold) ks ≡ true → ⊥) (budget : ℕ) (c : Course) (s : IsSoundCourse t may budget c) (empty : (n : ℕ) (e : Entry) → Waits c n e → ⊥) where
    all_taken : (n : ℕ) (e : Entry) → slice_get c.entries n ≡ Some e → is_taken c n ≡ true
    all_taken n e there = elim (cases_Bool (is_taken c n)) [
      | inl h ↦ h
      | inr h ↦ absurd (empty n e (record { there = there; untaken = h }))
    ]

    entered_expanded : (x : FactSet) → Entered c x → (k : ℕ) × Expanded c k x
    entered_expanded x (n, e, there, same) = let r = s.taken n e (all_taken n e there) there in (r.0, subst (Expanded c r.0) same r.1)

    never : (ks : List ℕ) (x : FactSet) (k : ℕ) → Expanded c k x → succeeds t (has x.hold) ks ≡ true → ⊥
    never [] x k e goal = false≢true (sym (s.no_goal k x e) ∙ goal)
    never (op ∷ rest) x k e h =
        let r = plan_of_step t fit x op rest h in
        elim (s.closed k x e op (can_within t op x r.0) r.0) [
          | inl hopeless ↦ right (step t op x) refl hopeless rest r.1
          | inr entered ↦ let q = entered_expanded (step t op x) entered in never rest (step t op x) q.0 q.1 r.1
        ]

    pub no_plan : (ks : List ℕ) → succeeds t (start t) ks ≡ true → ⊥
    no_plan ks h =
        let g = plan_of_first t fit ks ∙ h in
        elim s.begun [
          | inl hopeless ↦ right (first t) refl hopeless ks g
          | inr entered ↦ let r = entered_expanded (first t) entered in never ks (first t) r.0 r.1 g
        ]
