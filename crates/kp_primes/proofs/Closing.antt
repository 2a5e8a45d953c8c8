-- The closure of a consistent tag: what is always true, its literals, and what it leaves of clauses near it.
use Rattle.std.proofs.Common.{◌≡◌, ◌<◌, ◌+◌, ◌↔◌, ℕ, ◌⊎◌, Bool, true, false, ◌||◌, if◌then◌else◌, List, [], ◌∷◌, Option, Some, None, fold, slice_get, nat_lt, arith, refl, sym, ◌∙◌, ap, subst, inl, inr, ltb-true, lt-ltb}
use Rattle.std.proofs.lemmas.Bool.{or_cases, or_left, or_right, or_parts, and_parts, and_from, false≢true, false_from_ne_true}
use Rattle.std.specs.List.{list_any, list_all}
use Rattle.kp_base.specs.declared.lit.Lit.{Lit}
use Rattle.kp_base.specs.declared.ground.Initial.{Initial}
use Rattle.kp_base.specs.Planning.{Member, negated, same_lit, code_of, IsAscending, with_lit, holds, Entails, IsClosure, are_below, is_tautology}
use Rattle.kp_base.specs.Steps.{has}
use Rattle.kp_base.proofs.Lists.{all_member, any_member, any_from, member_at}
use Rattle.kp_base.proofs.Lits.{same_lit-true, same_lit-refl, has-member, member-has, negated-negated}
use Rattle.kp_base.proofs.Sets.{any-with_lit}
use Rattle.kp_clauses.specs.Listed.{row}
use Rattle.kp_primes.specs.Asked.{denied, denied_but, inconsistent, entailed_by, first_left, with_only, with_left, with_below, is_lit, leads, with_left_at, with_left_from, with_left_near}
use Rattle.kp_primes.specs.Held.{Held, formula}
use Rattle.kp_primes.specs.Placed.{places, AreHolders, AreReady}
use Rattle.kp_primes.proofs.Placing.{placed, from_zero}
use Rattle.kp_primes.proofs.Rising.{above}

-- ---- one literal more, where a test holds

if_keeps : (b : Bool) (m : Lit) (set : List Lit) (l : Lit) → has set l ≡ true → has (if b then with_lit m set else set) l ≡ true
if_keeps true m set l h = any-with_lit (same_lit l) m set ∙ or_left (has set l) (same_lit l m) h
if_keeps false m set l h = h

if_from : (b : Bool) (m : Lit) (set : List Lit) (l : Lit) → has (if b then with_lit m set else set) l ≡ true → (has set l ≡ true) ⊎ ((b ≡ true) × (l ≡ m))
if_from true m set l h = elim (or_cases (has set l) (same_lit l m) (sym (any-with_lit (same_lit l) m set) ∙ h)) [
  | inl e ↦ inl e
  | inr e ↦ inr (refl, same_lit-true l m e)
]
if_from false m set l h = inl h

if_new : (b : Bool) (m : Lit) (set : List Lit) → b ≡ true → has (if b then with_lit m set else set) m ≡ true
if_new b m set h = rw h (any-with_lit (same_lit m) m set ∙ or_right (has set m) (same_lit m m) (same_lit-refl m))

-- ---- what comes in by steps

module _ {X : Type 0} (step : List Lit → X → List Lit) (l : Lit) where
  stays : ((set : List Lit) (x : X) → has set l ≡ true → has (step set x) l ≡ true) → (xs : List X) (set : List Lit) → has set l ≡ true → has (fold step set xs) l ≡ true
  stays keeps [] set h = h
  stays keeps (x ∷ xs) set h = stays keeps xs (step set x) (keeps set x h)

  comes : ((set : List Lit) (x : X) → has set l ≡ true → has (step set x) l ≡ true) → (xs : List X) (x : X) → Member xs x → ((set : List Lit) → has (step set x) l ≡ true) → (set : List Lit) → has (fold step set xs) l ≡ true
  comes keeps [] y m at set = absurd m
  comes keeps (x ∷ xs) y (inl e) at set = stays keeps xs (step set x) (subst (λ z. has (step set z) l ≡ true) (sym e) (at set))
  comes keeps (x ∷ xs) y (inr m) at set = comes keeps xs y m at (step set x)

  from : (P : Type 0) (xs : List X) → ((set : List Lit) (x : X) → Member xs x → has (step set x) l ≡ true → (has set l ≡ true) ⊎ P) → (set : List Lit) → has (fold step set xs) l ≡ true → (has set l ≡ true) ⊎ P
  from P [] each set h = inl h
  from P (x ∷ xs) each set h = elim (from P xs (λ s y m. each s y (inr m)) (step set x) h) [
    | inl e ↦ each set x (inl refl) e
    | inr p ↦ inr p
  ]

-- ---- what a tag leaves of a clause

-- the literal, if there is one, is in the clause
abbrev pub IsIn : List Lit → Option Lit → Type 0
IsIn c None = Unit {0}
IsIn c (Some m) = Member c m

module _ (tag : List Lit) where
  in_later : (x : Lit) (c : List Lit) (o : Option Lit) → IsIn c o → IsIn (x ∷ c) o
  in_later x c None h = tt
  in_later x c (Some m) h = inr h

  in_either : (x : Lit) (c : List Lit) (b : Bool) → IsIn c (first_left tag c) → IsIn (x ∷ c) (if b then first_left tag c else Some x)
  in_either x c true h = in_later x c (first_left tag c) h
  in_either x c false h = inl refl

  first_in : (c : List Lit) → IsIn c (first_left tag c)
  first_in [] = tt
  first_in (x ∷ c) = in_either x c (has tag (negated x)) (first_in c)

  is_either : (l x : Lit) (c : List Lit) (b : Bool) → has tag (negated x) ≡ b → (has tag (negated x) || has (l ∷ []) x) ≡ true → denied tag (x ∷ c) ≡ false → (denied tag c ≡ false → first_left tag c ≡ Some l) → (if b then first_left tag c else Some x) ≡ Some l
  is_either l x c true is one free rest = rest (false_from_ne_true (denied tag c) (λ t. false≢true (sym free ∙ and_from (has tag (negated x)) (denied tag c) is t)))
  is_either l x c false is one free rest = elim (or_cases (has tag (negated x)) (has (l ∷ []) x) one) [
    | inl d ↦ absurd (false≢true (sym is ∙ d))
    | inr e ↦ elim (member-has (l ∷ []) x e) [
      | inl same ↦ ap Some (sym same)
      | inr none ↦ absurd none
    ]
  ]

  -- where all but one literal of a clause are denied, and not all, that one is the first that isn't
  first_is : (l : Lit) (c : List Lit) → denied_but tag l c ≡ true → denied tag c ≡ false → first_left tag c ≡ Some l
  first_is l [] but free = absurd (false≢true (sym free))
  first_is l (x ∷ c) but free =
      let parts = and_parts (has tag (negated x) || has (l ∷ []) x) (denied_but tag l c) but in
      is_either l x c (has tag (negated x)) refl parts.0 free (first_is l c parts.1)

  left_keeps : (set c : List Lit) (l : Lit) (o : Option Lit) → has set l ≡ true → has (with_only tag c set o) l ≡ true
  left_keeps set c l None h = h
  left_keeps set c l (Some m) h = if_keeps (denied_but tag m c) m set l h

  left_from : (set c : List Lit) (l : Lit) (o : Option Lit) → IsIn c o → has (with_only tag c set o) l ≡ true → (has set l ≡ true) ⊎ (Member c l × (denied_but tag l c ≡ true))
  left_from set c l None at h = inl h
  left_from set c l (Some m) at h = elim (if_from (denied_but tag m c) m set l h) [
    | inl e ↦ inl e
    | inr e ↦ inr (subst (Member c) (sym e.1) at, subst (λ z. denied_but tag z c ≡ true) (sym e.1) e.0)
  ]

  left_new : (set c : List Lit) (l : Lit) → denied_but tag l c ≡ true → denied tag c ≡ false → has (with_left tag set c) l ≡ true
  left_new set c l but free = subst (λ o. has (with_only tag c set o) l ≡ true) (sym (first_is l c but free)) (if_new (denied_but tag l c) l set but)

-- ---- the closure of the empty tag

module _ (n : ℕ) (i : Initial) (ps : List (List Lit)) (range : list_all (are_below n) ps ≡ true) (free : list_any (denied []) ps ≡ false) (exact : (l : Lit) → (entailed_by ps [] l ≡ true) ↔ Entails i [] l) where
  due : (l : Lit) → has (fold (with_left []) [] ps) l ≡ true → (l.atom.0 < n) × (list_any (denied_but [] l) ps ≡ true)
  due l h = elim (from (with_left []) l ((l.atom.0 < n) × (list_any (denied_but [] l) ps ≡ true)) ps (λ set c at k. elim (left_from [] set c l (first_left [] c) (first_in [] c) k) [
    | inl e ↦ inl e
    | inr e ↦ inr (ltb-true l.atom.0 n (all_member (λ (m : Lit). nat_lt m.atom.0 n) c l e.0 (all_member (are_below n) ps c at range)), any_from (denied_but [] l) ps c at e.1)
  ]) [] h) [
    | inl none ↦ absurd (false≢true none)
    | inr d ↦ d
  ]

  pub always_is : IsClosure n i [] (fold (with_left []) [] ps)
  always_is = record {
    of_atoms = λ l h. (due l h).0;
    entailed = λ l h. (exact l).0 (due l h).1;
    whole = λ l lt entails.
        let c = any_member (denied_but [] l) ps ((exact l).1 entails) in
        let open' = false_from_ne_true (denied [] c.0) (λ d. false≢true (sym free ∙ any_from (denied []) ps c.0 c.1 d)) in
        comes (with_left []) l (λ set c k. left_keeps [] set c l (first_left [] c) k) ps c.0 c.1 (λ set. left_new [] set c.0 l c.2 open') [];
  }

-- ---- the closure of any

less_itself : (a b : ℕ) → a < b → a ≡ b → ⊥
less_itself a b lt e = omega arith

-- what the tag leaves of a clause near it is in the closure
module _ (ps : List (List Lit)) (lists : List (List ℕ)) (tag : List Lit) (holders : AreHolders lists ps) where
  -- the tag leaves a clause nothing but this literal of it
  abbrev pub IsLeft : Lit → Type 0
  IsLeft k = (c : List Lit) × Member ps c × Member c k × (denied_but tag k c ≡ true)

  at_keeps : (l k : Lit) (set : List Lit) (o : Option (List Lit)) → has set k ≡ true → has (with_left_at tag l set o) k ≡ true
  at_keeps l k set None h = h
  at_keeps l k set (Some c) h = go (leads l c)
    where
      go : (b : Bool) → has (if b then with_left tag set c else set) k ≡ true
      go true = left_keeps tag set c k (first_left tag c) h
      go false = h

  from_keeps : (l k : Lit) (set : List Lit) → has set k ≡ true → has (with_left_from ps lists tag set l) k ≡ true
  from_keeps l k set h = stays (λ s i. with_left_at tag l s (slice_get ps i)) k (λ s i e. at_keeps l k s (slice_get ps i) e) (row lists (code_of l)) set h

  pub near_keeps : (k : Lit) (set : List Lit) → has set k ≡ true → has (with_left_near ps lists tag set) k ≡ true
  near_keeps k set h = stays (λ s l. with_left_from ps lists tag s (negated l)) k (λ s l e. from_keeps (negated l) k s e) tag set h

  at_from : (l k : Lit) (set : List Lit) (i : ℕ) (o : Option (List Lit)) → slice_get ps i ≡ o → has (with_left_at tag l set o) k ≡ true → (has set k ≡ true) ⊎ IsLeft k
  at_from l k set i None is h = inl h
  at_from l k set i (Some c) is h = go (leads l c) h
    where
      go : (b : Bool) → has (if b then with_left tag set c else set) k ≡ true → (has set k ≡ true) ⊎ IsLeft k
      go false e = inl e
      go true e = elim (left_from tag set c k (first_left tag c) (first_in tag c) e) [
        | inl f ↦ inl f
        | inr f ↦ inr (c, member_at ps i c is, f.0, f.1)
      ]

  pub near_from : (k : Lit) (set : List Lit) → has (with_left_near ps lists tag set) k ≡ true → (has set k ≡ true) ⊎ IsLeft k
  near_from k = from (λ s l. with_left_from ps lists tag s (negated l)) k (IsLeft k) tag
      (λ s l m e. from (λ s i. with_left_at tag (negated l) s (slice_get ps i)) k (IsLeft k) (row lists (code_of (negated l)))
      (λ t i n f. at_from (negated l) k t i (slice_get ps i) refl f) s e)

  -- a clause that the literal leads is found by it
  led_comes : (c : List Lit) (x k : Lit) → Member ps c → has c x ≡ true → leads x c ≡ true → has tag (negated x) ≡ true → denied_but tag k c ≡ true → denied tag c ≡ false → (set : List Lit) → has (with_left_near ps lists tag set) k ≡ true
  led_comes c x k at own leads_it in-tag but free =
      comes (λ s l. with_left_from ps lists tag s (negated l)) k (λ s l e. from_keeps (negated l) k s e) tag (negated x) (member-has tag (negated x) in-tag)
      (λ s. subst (λ (y : Lit). has (with_left_from ps lists tag s y) k ≡ true) (sym (negated-negated x)) (here s))
    where
      place : (j : ℕ) × Member (places x 0 ps) (0 + j) × (slice_get ps j ≡ Some c)
      place = placed x 0 ps c at own

      there : (s : List Lit) → has (with_left_at tag x s (slice_get ps place.0)) k ≡ true
      there s = subst (λ o. has (with_left_at tag x s o) k ≡ true) (sym place.2) (subst (λ b. has (if b then with_left tag s c else s) k ≡ true) (sym leads_it) (left_new tag s c k but free))

      here : (s : List Lit) → has (with_left_from ps lists tag s x) k ≡ true
      here = comes (λ s i. with_left_at tag x s (slice_get ps i)) k (λ s i e. at_keeps x k s (slice_get ps i) e) (row lists (code_of x)) place.0 (subst (λ z. Member z place.0) (sym (holders.each x)) (subst (Member (places x 0 ps)) (from_zero place.0) place.1)) there

  -- a clause of which the tag denies all but one literal is found, unless it has no other
  found_or_unit : (c : List Lit) (k : Lit) → Member ps c → IsAscending c → denied_but tag k c ≡ true → denied tag c ≡ false → (c ≡ k ∷ []) ⊎ ((set : List Lit) → has (with_left_near ps lists tag set) k ≡ true)
  found_or_unit [] k at asc but free = absurd (false≢true (sym free))
  found_or_unit (x ∷ c) k at asc but free =
      let parts = and_parts (has tag (negated x) || has (k ∷ []) x) (denied_but tag k c) but in
      elim (or_cases (has tag (negated x)) (has (k ∷ []) x) parts.0) [
        | inl d ↦ inr (led_comes (x ∷ c) x k at (has-member (x ∷ c) x (inl refl)) (or_left (has (x ∷ []) x) (is_lit x (slice_get (x ∷ c) 1)) (has-member (x ∷ []) x (inl refl))) d but free)
        | inr e ↦ elim (member-has (k ∷ []) x e) [
          | inl same ↦ second x c k same at asc but free parts.1
          | inr bad ↦ absurd bad
        ]
      ]
    where
      second : (x : Lit) (c : List Lit) (k : Lit) → k ≡ x → Member ps (x ∷ c) → IsAscending (x ∷ c) → denied_but tag k (x ∷ c) ≡ true → denied tag (x ∷ c) ≡ false → denied_but tag k c ≡ true → (x ∷ c ≡ k ∷ []) ⊎ ((set : List Lit) → has (with_left_near ps lists tag set) k ≡ true)
      second x [] k same at asc but free rest = inl (ap (λ z. z ∷ []) (sym same))
      second x (y ∷ c) k same at asc but free rest =
          elim (or_cases (has tag (negated y)) (has (k ∷ []) y) (and_parts (has tag (negated y) || has (k ∷ []) y) (denied_but tag k c) rest).0) [
            | inl d ↦ inr (led_comes (x ∷ y ∷ c) y k at (has-member (x ∷ y ∷ c) y (inr (inl refl))) (or_right (has (y ∷ []) x) (has (y ∷ []) y) (has-member (y ∷ []) y (inl refl))) d but free)
            | inr e ↦ elim (member-has (k ∷ []) y e) [
              | inl one ↦ absurd (less_itself (code_of x) (code_of y) (above x (y ∷ c) asc y (inl refl)) (ap code_of (sym same ∙ one)))
              | inr bad ↦ absurd bad
            ]
          ]

-- the literals that are always true, those of the tag, and what it leaves of clauses
module _ (h : Held) (lists : List (List ℕ)) (always tag : List Lit) (ready : AreReady h lists always) (free : inconsistent h.clauses tag ≡ false) (exact : (l : Lit) → (entailed_by h.clauses tag l ≡ true) ↔ Entails (formula h) tag l) where
  abbrev pub own : List Lit
  own = fold (with_below h.atoms) always tag

  abbrev pub closed : List Lit
  closed = with_left_near h.clauses lists tag own

  frees : (is_tautology tag ≡ false) × (list_any (denied tag) h.clauses ≡ false)
  frees = or_parts (is_tautology tag) (list_any (denied tag) h.clauses) free

  -- a literal of the atoms that is entailed
  abbrev pub IsDue : Lit → Type 0
  IsDue l = (l.atom.0 < h.atoms) × Entails (formula h) tag l

  own_due : (l : Lit) → has own l ≡ true → IsDue l
  own_due l k = elim (from (with_below h.atoms) l (IsDue l) tag (λ set m at k. elim (if_from (nat_lt m.atom.0 h.atoms) m set l k) [
    | inl e ↦ inl e
    | inr e ↦ inr (
      subst (λ (z : Lit). z.atom.0 < h.atoms) (sym e.1) (ltb-true m.atom.0 h.atoms e.0),
      λ s model met. all_member (holds s) tag l (subst (Member tag) (sym e.1) at) met,
    )
  ]) always k) [
    | inl e ↦ (ready.always.of_atoms l e, λ s model met. ready.always.entailed l e s model refl)
    | inr d ↦ d
  ]

  left_due : (l : Lit) → IsLeft h.clauses lists tag ready.holders l → IsDue l
  left_due l c = (
    ltb-true l.atom.0 h.atoms (all_member (λ (m : Lit). nat_lt m.atom.0 h.atoms) c.0 l c.2 (all_member (are_below h.atoms) h.clauses c.0 c.1 ready.whole.of_atoms.clauses)),
    (exact l).0 (or_right (is_tautology tag || has tag l) (list_any (denied_but tag l) h.clauses) (any_from (denied_but tag l) h.clauses c.0 c.1 c.3)),
  )

  all_due : (l : Lit) → has closed l ≡ true → IsDue l
  all_due l k = elim (near_from h.clauses lists tag ready.holders l own k) [ inl e ↦ own_due l e | inr e ↦ left_due l e ]

  own_comes : (l : Lit) → l.atom.0 < h.atoms → has tag l ≡ true → has own l ≡ true
  own_comes l lt k = comes (with_below h.atoms) l (λ set m e. if_keeps (nat_lt m.atom.0 h.atoms) m set l e) tag l (member-has tag l k) (λ set. if_new (nat_lt l.atom.0 h.atoms) l set (lt-ltb l.atom.0 h.atoms lt)) always

  always_comes : (l : Lit) → has always l ≡ true → has own l ≡ true
  always_comes l k = stays (with_below h.atoms) l (λ set m e. if_keeps (nat_lt m.atom.0 h.atoms) m set l e) tag always k

  unit_entails : (l : Lit) → Member h.clauses (l ∷ []) → Entails (formula h) [] l
  unit_entails l at s model met = elim (or_cases (holds s l) false (all_member (list_any (holds s)) h.clauses (l ∷ []) at (and_parts (list_all (list_any (holds s)) h.clauses) true model).0)) [
    | inl e ↦ e
    | inr e ↦ absurd (false≢true e)
  ]

  all_comes : (l : Lit) → l.atom.0 < h.atoms → entailed_by h.clauses tag l ≡ true → has closed l ≡ true
  all_comes l lt k = elim (or_cases (is_tautology tag || has tag l) (list_any (denied_but tag l) h.clauses) k) [
    | inl t ↦ elim (or_cases (is_tautology tag) (has tag l) t) [
      | inl u ↦ absurd (false≢true (sym frees.0 ∙ u))
      | inr u ↦ near_keeps h.clauses lists tag ready.holders l own (own_comes l lt u)
    ]
    | inr a ↦
        let c = any_member (denied_but tag l) h.clauses a in
        let open' = false_from_ne_true (denied tag c.0) (λ d. false≢true (sym frees.1 ∙ any_from (denied tag) h.clauses c.0 c.1 d)) in
        elim (found_or_unit h.clauses lists tag ready.holders c.0 l c.1 ((ready.whole.primes.primes.exact c.0).0 c.1).ascending c.2 open') [
          | inl unit ↦ near_keeps h.clauses lists tag ready.holders l own (always_comes l (ready.always.whole l lt (unit_entails l (subst (Member h.clauses) unit c.1))))
          | inr found ↦ found own
        ]
  ]

  pub closed_is : IsClosure h.atoms (formula h) tag (with_left_near h.clauses lists tag (fold (with_below h.atoms) always tag))
  closed_is = record {
    of_atoms = λ l k. (all_due l k).0;
    entailed = λ l k. (all_due l k).1;
    whole = λ l lt entails. all_comes l lt ((exact l).1 entails);
  }
