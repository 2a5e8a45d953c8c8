-- The rules that need a fact, and how many needs of each rule aren't met.
use Rattle.std.proofs.Common.{◌≡◌, ◌<◌, ◌≤◌, ◌+◌, ◌-◌, ℕ, zero, suc, Bool, true, false, ◌||◌, nat_eq, nat_lt, List, [], ◌∷◌, ◌++◌, Some, length, set, take, get_or, slice_get, slice_index_or, length-set, get_or-set_same, get_or-set_other, arith, refl, sym, ap, ap₂, subst, ◌∙◌, inl, inr}
use Rattle.std.specs.List.{list_all}
use Rattle.std.proofs.lemmas.Bool.{and_parts, and_from, cases_eq, cases_lt, cases_Bool, eq-eqb, ne_eqb, eqb-true, lt-ltb, le-leb, lt-leb, ltb-true}
use Rattle.std.proofs.lemmas.Option.{same_Some, slice_get_within, slice_get-get_or}
use Rattle.kp_base.specs.Lists.{Member, only_if}
use Rattle.kp_base.proofs.Lists.{all_member, member_at}
use Rattle.kp_base.proofs.Places.{element as at_within}
use Rattle.kp_classic.specs.Fits.{are_below}
use Rattle.kp_guide.specs.declared.rule.Rule.{Rule}
use Rattle.kp_guide.specs.CostTables.{fits_rule}
use Rattle.kp_guide.specs.Waiting.{one_if, how_many, times, row, AreUsers, Notes, unreached, unreached_before, count_at, needs_of, AreCounts, AreEnough, CountsDown}

-- ---- one more element of a list

pub taken_on : {X : Type 0} (xs : List X) (i : ℕ) (x : X) → slice_get xs i ≡ Some x → take (i + 1) xs ≡ take i xs ++ x ∷ []
taken_on [] i x h = cc
taken_on (y ∷ ys) zero x h = ap (λ z. z ∷ []) (same_Some y x h)
taken_on (y ∷ ys) (suc i) x h = let e : suc i + 1 ≡ suc (i + 1) = omega arith in ap (λ n. take n (y ∷ ys)) e ∙ ap (λ zs. y ∷ zs) (taken_on ys i x h)

pub all_pushed : (p : ℕ → Bool) (xs : List ℕ) (x : ℕ) → list_all p xs ≡ true → p x ≡ true → list_all p (xs ++ x ∷ []) ≡ true
all_pushed p [] x h e = and_from (p x) true e refl
all_pushed p (y ∷ ys) x h e = let parts = and_parts (p y) (list_all p ys) h in and_from (p y) (list_all p (ys ++ x ∷ [])) parts.0 (all_pushed p ys x parts.1 e)

-- ---- how many

one_same : (x y : ℕ) → x ≡ y → one_if (nat_eq x y) ≡ 1
one_same x y e = ap one_if (eq-eqb x y e)

one_other : (x y : ℕ) → (x ≡ y → ⊥) → one_if (nat_eq x y) ≡ 0
one_other x y ne = ap one_if (ne_eqb x y ne)

how_many_append : (p : ℕ → Bool) (xs ys : List ℕ) → how_many p (xs ++ ys) ≡ how_many p xs + how_many p ys
how_many_append p [] ys = omega arith
how_many_append p (x ∷ xs) ys = let rest = how_many_append p xs ys in omega (arith, rest)

-- tests that agree on a list
how_many_alike : (p q : ℕ → Bool) (xs : List ℕ) → ((x : ℕ) → Member xs x → p x ≡ q x) → how_many p xs ≡ how_many q xs
how_many_alike p q [] f = refl
how_many_alike p q (x ∷ xs) f = ap₂ ◌+◌ (ap one_if (f x (inl refl))) (how_many_alike p q xs (λ y m. f y (inr m)))

-- a test that one number passes no more
how_many_less : (p q : ℕ → Bool) (f : ℕ) → p f ≡ true → q f ≡ false → ((x : ℕ) → (x ≡ f → ⊥) → q x ≡ p x) → (xs : List ℕ) → how_many p xs ≡ how_many q xs + times xs f
how_many_less p q f passed fails other [] = omega arith
how_many_less p q f passed fails other (x ∷ xs) =
    let rest = how_many_less p q f passed fails other xs in
    elim (cases_eq x f) [
      | inl e ↦
          let a : one_if (p x) ≡ 1 = ap one_if (subst (λ y. p y ≡ true) (sym e) passed) in
          let b : one_if (q x) ≡ 0 = ap one_if (subst (λ y. q y ≡ false) (sym e) fails) in
          let c = one_same f x (sym e) in
          omega (arith, a, b, c, rest)
      | inr ne ↦
          let a : one_if (q x) ≡ one_if (p x) = ap one_if (other x ne) in
          let c = one_other f x (λ e. ne (sym e)) in
          omega (arith, a, c, rest)
    ]

how_many_all : (p : ℕ → Bool) → ((x : ℕ) → p x ≡ true) → (xs : List ℕ) → how_many p xs ≡ length xs
how_many_all p each [] = refl
how_many_all p each (x ∷ xs) = let a : one_if (p x) ≡ 1 = ap one_if (each x) in let rest = how_many_all p each xs in omega (arith, a, rest)

-- where some pass, one of them
pub some_passes : (p : ℕ → Bool) (xs : List ℕ) → 0 < how_many p xs → (x : ℕ) × Member xs x × (p x ≡ true)
some_passes p [] lt = absurd (omega (arith, lt))
some_passes p (x ∷ xs) lt = elim (cases_Bool (p x)) [
  | inl passes ↦ (x, inl refl, passes)
  | inr fails ↦
      let a : one_if (p x) ≡ 0 = ap one_if fails in
      let r = some_passes p xs (omega (arith, lt, a)) in
      (r.0, inr r.1, r.2)
]

times_member : (xs : List ℕ) (x : ℕ) → 0 < times xs x → Member xs x
times_member xs x lt = let r = some_passes (nat_eq x) xs lt in subst (Member xs) (sym (eqb-true x r.0 r.2)) r.1

member_times : (xs : List ℕ) (x : ℕ) → Member xs x → 0 < times xs x
member_times [] x m = absurd m
member_times (y ∷ ys) x m = elim m [
  | inl e ↦ let a = one_same x y (sym e) in omega (arith, a)
  | inr r ↦ let rest = member_times ys x r in omega (arith, rest)
]

-- no more pass than in a longer list
how_many_taken : (p : ℕ → Bool) (xs : List ℕ) (i : ℕ) → how_many p (take i xs) ≤ how_many p xs
how_many_taken p [] zero = omega arith
how_many_taken p [] (suc i) = omega arith
how_many_taken p (x ∷ xs) zero = omega arith
how_many_taken p (x ∷ xs) (suc i) = let rest = how_many_taken p xs i in omega (arith, rest)

-- a number that passes stands no more often than numbers pass
times_passed : (p : ℕ → Bool) (f : ℕ) → p f ≡ true → (xs : List ℕ) → times xs f ≤ how_many p xs
times_passed p f passed [] = omega arith
times_passed p f passed (x ∷ xs) =
    let rest = times_passed p f passed xs in
    elim (cases_eq f x) [
      | inl e ↦
          let a : one_if (p x) ≡ 1 = ap one_if (subst (λ y. p y ≡ true) e passed) in
          let c = one_same f x e in
          omega (arith, a, c, rest)
      | inr ne ↦ let c = one_other f x ne in omega (arith, c, rest)
    ]

times_pushed : (xs : List ℕ) (y x : ℕ) → times (xs ++ y ∷ []) x ≡ times xs x + one_if (nat_eq x y)
times_pushed xs y x = let e = how_many_append (nat_eq x) xs (y ∷ []) in omega (arith, e)

-- ---- a number is noted

pub notes_none : (number : ℕ) (users : List (List ℕ)) → Notes [] number users users
notes_none number users = record { long = refl; noted = λ f. omega arith; others = λ f k ne. refl; below = λ m lt h. h }

-- the row of a fact, as it is read
pub row_read : (users : List (List ℕ)) (f : ℕ) (x : List ℕ) → f < length users → get_or users f x ≡ row users f
row_read users f x lt = same_Some (get_or users f x) (row users f) (sym (slice_get-get_or users f x lt) ∙ slice_get-get_or users f [] lt)

pub notes_one : (users : List (List ℕ)) (f number : ℕ) → f < length users → Notes (f ∷ []) number users (set users f (row users f ++ number ∷ []))
notes_one users f number lt = record {
  long = length-set users f (row users f ++ number ∷ []);
  noted = λ g. elim (cases_eq g f) [
    | inl e ↦
        let a : times (row (set users f (row users f ++ number ∷ [])) g) number ≡ times (row users f ++ number ∷ []) number = ap (λ xs. times xs number) (at g e) in
        let b : times (row users f) number ≡ times (row users g) number = ap (λ x. times (row users x) number) (sym e) in
        let c = times_pushed (row users f) number number in
        let d = one_same number number refl in
        let h = one_same g f e in
        omega (arith, a, b, c, d, h)
    | inr ne ↦
        let a : times (row (set users f (row users f ++ number ∷ [])) g) number ≡ times (row users g) number = ap (λ xs. times xs number) (other g ne) in
        let h = one_other g f ne in
        omega (arith, a, h)
  ];
  others = λ g k differs. elim (cases_eq g f) [
    | inl e ↦
        let a : times (row (set users f (row users f ++ number ∷ [])) g) k ≡ times (row users f ++ number ∷ []) k = ap (λ xs. times xs k) (at g e) in
        let b : times (row users f) k ≡ times (row users g) k = ap (λ x. times (row users x) k) (sym e) in
        let c = times_pushed (row users f) number k in
        let d = one_other k number differs in
        omega (arith, a, b, c, d)
    | inr ne ↦ ap (λ xs. times xs k) (other g ne)
  ];
  below = λ m small h. record {
    each = λ g. elim (cases_eq g f) [
      | inl e ↦ subst (λ x. are_below m x ≡ true) (sym (at g e)) (all_pushed (λ x. nat_lt x m) (row users f) number (h.each f) (lt-ltb number m small))
      | inr ne ↦ subst (λ x. are_below m x ≡ true) (sym (other g ne)) (h.each g)
    ];
  };
}
  where
    at : (g : ℕ) → g ≡ f → row (set users f (row users f ++ number ∷ [])) g ≡ row users f ++ number ∷ []
    at g e = subst (λ x. row (set users f (row users f ++ number ∷ [])) x ≡ row users f ++ number ∷ []) (sym e) (get_or-set_same users f (row users f ++ number ∷ []) [] lt)

    other : (g : ℕ) → (g ≡ f → ⊥) → row (set users f (row users f ++ number ∷ [])) g ≡ row users g
    other g ne = get_or-set_other users f g (row users f ++ number ∷ []) [] ne

notes_more : (fs : List ℕ) (f number : ℕ) (old mid new : List (List ℕ)) → Notes fs number old mid → Notes (f ∷ []) number mid new → Notes (fs ++ f ∷ []) number old new
notes_more fs f number old mid new a b = record {
  long = b.long ∙ a.long;
  noted = λ g. let x = a.noted g in let y = b.noted g in let z = how_many_append (nat_eq g) fs (f ∷ []) in omega (arith, x, y, z);
  others = λ g k ne. b.others g k ne ∙ a.others g k ne;
  below = λ m small h. b.below m small (a.below m small h);
}

-- the next of some facts
pub notes_on : (fs : List ℕ) (i number : ℕ) (old mid new : List (List ℕ)) → i < length fs → Notes (take i fs) number old mid → Notes (slice_index_or fs i 0 ∷ []) number mid new → Notes (take (i + 1) fs) number old new
notes_on fs i number old mid new lt a b = subst (λ gs. Notes gs number old new) (sym (taken_on fs i (slice_index_or fs i 0) (slice_get-get_or fs i 0 lt))) (notes_more (take i fs) (slice_index_or fs i 0) number old mid new a b)

-- ---- all rules

pub users_none : (rules : List Rule) (users : List (List ℕ)) → ((f : ℕ) → row users f ≡ []) → AreUsers rules 0 users
users_none rules users empty = record {
  listed = λ k r f lt h. absurd (omega (arith, lt));
  later = λ k f le. ap (λ xs. times xs k) (empty f);
  below = record { each = λ f. subst (λ x. are_below (length rules) x ≡ true) (sym (empty f)) refl };
}

pub users_on : (rules : List Rule) (i : ℕ) (r : Rule) (old new : List (List ℕ)) → i < length rules → slice_get rules i ≡ Some r → AreUsers rules i old → Notes r.needs i old new → AreUsers rules (i + 1) new
users_on rules i r old new within at a b = record {
  listed = λ k q f lt h. elim (cases_lt k i) [
    | inl before ↦ b.others f k (λ e. omega (arith, e, before)) ∙ a.listed k q f before h
    | inr past ↦
        let e : k ≡ i = omega (arith, past, lt) in
        let same = same_Some r q (sym at ∙ subst (λ x. slice_get rules x ≡ Some q) e h) in
        let x = b.noted f in
        let y = a.later i f (omega arith) in
        let z : times (row new f) k ≡ times (row new f) i = ap (times (row new f)) e in
        let w : times r.needs f ≡ times q.needs f = ap (λ p. times p.needs f) same in
        omega (arith, x, y, z, w)
  ];
  later = λ k f le. b.others f k (λ e. omega (arith, e, le)) ∙ a.later k f (omega (arith, le));
  below = b.below (length rules) within a.below;
}

-- a rule stands with what it needs
pub user_there : (rules : List Rule) (users : List (List ℕ)) (k : ℕ) (r : Rule) (f : ℕ) → AreUsers rules (length rules) users → slice_get rules k ≡ Some r → Member r.needs f → Member (row users f) k
user_there rules users k r f u at m =
    let a = u.listed k r f (slice_get_within rules k r at) at in
    let b = member_times r.needs f m in
    times_member (row users f) k (omega (arith, a, b))

-- ---- counts

pub counts_none : (counts : List ℕ) → CountsDown [] counts counts
counts_none counts = record { long = refl; each = λ k. omega arith }

-- where none is counted down
pub counts_same : {rules : List Rule} {p : ℕ → Bool} (old new : List ℕ) → CountsDown [] old new → AreCounts rules p old → AreCounts rules p new
counts_same old new d a = record { long = d.long ∙ a.long; each = λ k r at. let x = d.each k in let y = a.each k r at in omega (arith, x, y) }

-- a count that is left for the next of some rules
pub counts_left : (numbers : List ℕ) (i : ℕ) (old mid : List ℕ) → i < length numbers → AreEnough numbers old → CountsDown (take i numbers) old mid → 1 ≤ count_at mid (slice_index_or numbers i 0)
counts_left numbers i old mid lt enough a =
    let number = slice_index_or numbers i 0 in
    let x = a.each number in
    let y = enough.each number in
    let z : times (take (i + 1) numbers) number ≡ times (take i numbers ++ number ∷ []) number = ap (λ ks. times ks number) (taken_on numbers i number (slice_get-get_or numbers i 0 lt)) in
    let w = times_pushed (take i numbers) number number in
    let s = one_same number number refl in
    let t = how_many_taken (nat_eq number) numbers (i + 1) in
    omega (arith, x, y, z, w, s, t)

enough_none : (counts : List ℕ) → AreEnough [] counts
enough_none counts = record { each = λ k. omega arith }

-- the rules that need a fact count it, where it passes
pub enough_for : (rules : List Rule) (p : ℕ → Bool) (users : List (List ℕ)) (counts : List ℕ) (f : ℕ) → AreUsers rules (length rules) users → AreCounts rules p counts → p f ≡ true → AreEnough (row users f) counts
enough_for rules p users counts f u a passed = record {
  each = λ k. elim (cases_lt k (length rules)) [
    | inl lt ↦
        let r = at_within rules k lt in
        let x = u.listed k r.0 f lt r.1 in
        let y = a.each k r.0 r.1 in
        let z = times_passed p f passed r.0.needs in
        omega (arith, x, y, z)
    | inr ge ↦ let x = u.later k f ge in omega (arith, x)
  ];
}

-- and where it has a cost, none is counted
pub enough_told : (rules : List Rule) (costs : List ℕ) (users : List (List ℕ)) (counts : List ℕ) (f : ℕ) → AreUsers rules (length rules) users → AreCounts rules (unreached costs) counts → AreEnough (only_if (unreached costs f) (row users f)) counts
enough_told rules costs users counts f u a = by (unreached costs f) refl
  where
    by : (b : Bool) → unreached costs f ≡ b → AreEnough (only_if b (row users f)) counts
    by true is = enough_for rules (unreached costs) users counts f u a is
    by false is = enough_none counts

-- one more is counted down
counts_more : (done : List ℕ) (k : ℕ) (old mid : List ℕ) → k < length mid → CountsDown done old mid → CountsDown (done ++ k ∷ []) old (set mid k (count_at mid k - 1))
counts_more done k old mid lt a = record {
  long = length-set mid k (count_at mid k - 1) ∙ a.long;
  each = λ j.
      let x = a.each j in
      let z = how_many_append (nat_eq j) done (k ∷ []) in
      elim (cases_eq j k) [
        | inl e ↦
            let s : count_at (set mid k (count_at mid k - 1)) j ≡ count_at mid j - 1 = subst (λ i. count_at (set mid k (count_at mid k - 1)) i ≡ count_at mid i - 1) (sym e) (get_or-set_same mid k (count_at mid k - 1) 0 lt) in
            let h = one_same j k e in
            omega (arith, x, z, s, h)
        | inr ne ↦
            let s : count_at (set mid k (count_at mid k - 1)) j ≡ count_at mid j = get_or-set_other mid k j (count_at mid k - 1) 0 ne in
            let h = one_other j k ne in
            omega (arith, x, z, s, h)
      ];
}

-- the next of some rules
pub counts_on : (numbers : List ℕ) (i : ℕ) (old mid : List ℕ) → i < length numbers → slice_index_or numbers i 0 < length mid → CountsDown (take i numbers) old mid → CountsDown (take (i + 1) numbers) old (set mid (slice_index_or numbers i 0) (count_at mid (slice_index_or numbers i 0) - 1))
counts_on numbers i old mid lt within a = subst (λ ks. CountsDown ks old (set mid (slice_index_or numbers i 0) (count_at mid (slice_index_or numbers i 0) - 1))) (sym (taken_on numbers i (slice_index_or numbers i 0) (slice_get-get_or numbers i 0 lt))) (counts_more (take i numbers) (slice_index_or numbers i 0) old mid within a)

module _ (rules : List Rule) (p q : ℕ → Bool) where
  -- tests that agree on what the rules need
  pub counts_alike : (counts : List ℕ) → ((k : ℕ) (r : Rule) (x : ℕ) → slice_get rules k ≡ Some r → Member r.needs x → p x ≡ q x) → AreCounts rules p counts → AreCounts rules q counts
  counts_alike counts same a = record { long = a.long; each = λ k r at. a.each k r at ∙ how_many_alike p q r.needs (λ x m. same k r x at m) }

  -- a fact passes no more, and the rules that need it are counted down
  pub counts_met : (users : List (List ℕ)) → AreUsers rules (length rules) users → (f : ℕ) → p f ≡ true → q f ≡ false → ((x : ℕ) → (x ≡ f → ⊥) → q x ≡ p x) → (old new : List ℕ) → CountsDown (row users f) old new → AreCounts rules p old → AreCounts rules q new
  counts_met users u f passed fails other old new d a = record {
    long = d.long ∙ a.long;
    each = λ k r at.
        let l = u.listed k r f (slice_get_within rules k r at) at in
        let e = a.each k r at in
        let h = how_many_less p q f passed fails other r.needs in
        let c = d.each k in
        omega (arith, l, e, h, c);
  }

-- ---- the first counts

-- no fact has counted so far
pub counts_begin : (rules : List Rule) (costs : List ℕ) → AreCounts rules (unreached_before costs 0) (needs_of rules)
counts_begin rules costs = record {
  long = long rules;
  each = λ k r at. each rules k r at ∙ sym (how_many_all (unreached_before costs 0) (λ x. ap (λ b. b || unreached costs x) (le-leb 0 x (omega arith))) r.needs);
}
  where
    long : (rs : List Rule) → length (needs_of rs) ≡ length rs
    long [] = refl
    long (r ∷ rs) = ap suc (long rs)

    each : (rs : List Rule) (k : ℕ) (r : Rule) → slice_get rs k ≡ Some r → count_at (needs_of rs) k ≡ length r.needs
    each [] k r at = cc
    each (q ∷ rs) zero r at = ap (λ z. length z.needs) (same_Some q r at)
    each (q ∷ rs) (suc k) r at = each rs k r at

module _ (rules : List Rule) (costs : List ℕ) (i : ℕ) where
  -- the others pass as before
  others_as_before : (x : ℕ) → (x ≡ i → ⊥) → unreached_before costs (i + 1) x ≡ unreached_before costs i x
  others_as_before x ne = ap (λ b. b || unreached costs x) (elim (cases_lt x i) [
    | inl lt ↦ lt-leb (i + 1) x (omega (arith, lt)) ∙ sym (lt-leb i x lt)
    | inr ge ↦ le-leb (i + 1) x (omega (arith, ge, ne)) ∙ sym (le-leb i x ge)
  ])

  pub itself_before : unreached_before costs i i ≡ true
  itself_before = ap (λ b. b || unreached costs i) (le-leb i i (omega arith))

  itself_after : unreached_before costs (i + 1) i ≡ unreached costs i
  itself_after = ap (λ b. b || unreached costs i) (lt-leb (i + 1) i (omega arith))

  -- the next fact has a cost
  pub counts_reached : (users : List (List ℕ)) → AreUsers rules (length rules) users → unreached costs i ≡ false → (old new : List ℕ) → CountsDown (row users i) old new → AreCounts rules (unreached_before costs i) old → AreCounts rules (unreached_before costs (i + 1)) new
  counts_reached users u has_cost old new d a = counts_met rules (unreached_before costs i) (unreached_before costs (i + 1)) users u i itself_before (itself_after ∙ has_cost) others_as_before old new d a

  -- or it has none
  pub counts_unreached : unreached costs i ≡ true → (counts : List ℕ) → AreCounts rules (unreached_before costs i) counts → AreCounts rules (unreached_before costs (i + 1)) counts
  counts_unreached no_cost counts a = counts_alike rules (unreached_before costs i) (unreached_before costs (i + 1)) counts (λ k r x at m. elim (cases_eq x i) [
    | inl e ↦ subst (λ y. unreached_before costs i y ≡ unreached_before costs (i + 1) y) (sym e) (itself_before ∙ sym (itself_after ∙ no_cost))
    | inr ne ↦ sym (others_as_before x ne)
  ]) a

-- all facts have counted
pub counts_end : (rules : List Rule) (costs counts : List ℕ) (n : ℕ) → list_all (fits_rule n) rules ≡ true → AreCounts rules (unreached_before costs n) counts → AreCounts rules (unreached costs) counts
counts_end rules costs counts n fit a = counts_alike rules (unreached_before costs n) (unreached costs) counts (λ k r x at m. ap (λ b. b || unreached costs x) (lt-leb n x (below k r x at m))) a
  where
    below : (k : ℕ) (r : Rule) (x : ℕ) → slice_get rules k ≡ Some r → Member r.needs x → x < n
    below k r x at m =
        let parts = and_parts (nat_lt r.fact n) (are_below n r.needs) (all_member (fits_rule n) rules r (member_at rules k r at) fit) in
        ltb-true x n (all_member (λ y. nat_lt y n) r.needs x m parts.1)
