-- The rules that add a fact.
use Rattle.std.proofs.Common.{◌≡◌, ◌<◌, ◌+◌, ℕ, true, List, [], ◌∷◌, ◌++◌, ◌⊎◌, Some, length, nat_eq, set, slice_get, get_or, get_or-set_same, get_or-set_other, arith, refl, sym, ap, subst, ◌∙◌, inl, inr}
use Rattle.std.proofs.lemmas.Bool.{cases_eq, cases_lt, eq-eqb, eqb-true}
use Rattle.std.proofs.lemmas.Option.{same_Some, slice_get-get_or, slice_get_within}
use Rattle.kp_base.specs.Lists.{Member}
use Rattle.kp_base.proofs.Lists.{any_from, append_member, member_left, member_right, same_member, number_at}
use Rattle.kp_classic.specs.States.{has}
use Rattle.kp_guide.specs.declared.rule.Rule.{Rule}
use Rattle.kp_guide.specs.Placing.{AddThere, AreAdders}
use Rattle.kp_guide.specs.Relaxed.{at}
use Rattle.kp_guide.specs.Waiting.{row}

-- a number stands in a list that has one more
has_pushed : (xs : List ℕ) (x k : ℕ) → has xs k ≡ true → has (xs ++ x ∷ []) k ≡ true
has_pushed xs x k h = any_from (nat_eq k) (xs ++ x ∷ []) k (member_left xs (x ∷ []) k (same_member nat_eq (λ a b e. eqb-true a b e) xs k h)) (eq-eqb k k refl)

has_last : (xs : List ℕ) (x : ℕ) → has (xs ++ x ∷ []) x ≡ true
has_last xs x = any_from (nat_eq x) (xs ++ x ∷ []) x (member_right xs (x ∷ []) x (inl refl)) (eq-eqb x x refl)

pub adders_none : (rules : List Rule) (rows : List (List ℕ)) → ((f : ℕ) → row rows f ≡ []) → AreAdders rules 0 rows
adders_none rules rows empty = record {
  listed = λ k r lt h. absurd (omega (arith, lt));
  only = λ f k r m. absurd (subst (λ x. Member x k) (empty f) m);
  below = λ f k m. absurd (subst (λ x. Member x k) (empty f) m);
}

pub adders_on : (rules : List Rule) (i : ℕ) (r : Rule) (rows : List (List ℕ)) → r.fact < length rows → slice_get rules i ≡ Some r → AreAdders rules i rows → AreAdders rules (i + 1) (set rows r.fact (row rows r.fact ++ i ∷ []))
adders_on rules i r rows within is a = record {
  listed = λ k q lt h. elim (cases_lt k i) [
    | inl before ↦ elim (cases_eq q.fact r.fact) [
      | inl e ↦ subst (λ x. has x k ≡ true) (sym (here q.fact e)) (has_pushed (row rows r.fact) i k (subst (λ f. has (row rows f) k ≡ true) e (a.listed k q before h)))
      | inr ne ↦ subst (λ x. has x k ≡ true) (sym (other q.fact ne)) (a.listed k q before h)
    ]
    | inr past ↦
        let e : k ≡ i = omega (arith, past, lt) in
        let same : r ≡ q = same_Some r q (sym is ∙ subst (λ x. slice_get rules x ≡ Some q) e h) in
        subst (λ z. has (row new z.fact) k ≡ true) same (subst (λ x. has (row new r.fact) x ≡ true) (sym e) (subst (λ x. has x i ≡ true) (sym (here r.fact refl)) (has_last (row rows r.fact) i)))
  ];
  only = λ f k q m h. elim (rows_of f k m) [
    | inl old ↦ a.only f k q old h
    | inr one ↦ ap (λ z. z.fact) (same_Some q r (sym h ∙ subst (λ x. slice_get rules x ≡ Some r) (sym one.1) is)) ∙ sym one.0
  ];
  below = λ f k m. elim (rows_of f k m) [
    | inl old ↦ let l = a.below f k old in omega (arith, l)
    | inr one ↦ let e = one.1 in omega (arith, e)
  ];
}
  where
    new : List (List ℕ)
    new = set rows r.fact (row rows r.fact ++ i ∷ [])

    here : (f : ℕ) → f ≡ r.fact → row new f ≡ row rows r.fact ++ i ∷ []
    here f e = ap (row new) e ∙ get_or-set_same rows r.fact (row rows r.fact ++ i ∷ []) [] within

    other : (f : ℕ) → (f ≡ r.fact → ⊥) → row new f ≡ row rows f
    other f ne = get_or-set_other rows r.fact f (row rows r.fact ++ i ∷ []) [] ne

    -- what stands in a row stood there, or is the new number in its fact's row
    rows_of : (f k : ℕ) → Member (row new f) k → Member (row rows f) k ⊎ ((f ≡ r.fact) × (k ≡ i))
    rows_of f k m = elim (cases_eq f r.fact) [
      | inl e ↦ elim (append_member (row rows r.fact) (i ∷ []) k (subst (λ x. Member x k) (here f e) m)) [
        | inl old ↦ inl (subst (λ g. Member (row rows g) k) (sym e) old)
        | inr one ↦ elim one [ inl same ↦ inr (e, sym same) | inr z ↦ absurd z ]
      ]
      | inr ne ↦ inl (subst (λ x. Member x k) (other f ne) m)
    ]

-- a fact that stands at a place
pub at_place : (facts : List ℕ) (place f : ℕ) → slice_get facts place ≡ Some f → at facts place ≡ f
at_place facts place f h = same_Some (at facts place) f (sym (slice_get-get_or facts place 0 (slice_get_within facts place f h)) ∙ h)

-- the rules in a row have the place's fact
pub row_adds : (rules : List Rule) (rows : List (List ℕ)) (f : ℕ) (facts : List ℕ) (place : ℕ) → AreAdders rules (length rules) rows → place < length facts → at facts place ≡ f → AddThere rules (row rows f) facts place
row_adds rules rows f facts place a inside is = record {
  inside = inside;
  each = λ k m. let there = slice_get-get_or rules k no_rule (a.below f k m) in (get_or rules k no_rule, there, a.only f k (get_or rules k no_rule) m there ∙ sym is);
}
  where
    no_rule : Rule
    no_rule = record { fact = 0; needs = [] }

-- each rule for a fact is in the fact's row
pub in_row : (rules : List Rule) (rows : List (List ℕ)) (r : Rule) → AreAdders rules (length rules) rows → Member rules r → (k : ℕ) × Member (row rows r.fact) k × (slice_get rules k ≡ Some r)
in_row rules rows r a m =
    let n = number_at rules r m in
    (n.0, same_member nat_eq (λ x y e. eqb-true x y e) (row rows r.fact) n.0 (a.listed n.0 r (slice_get_within rules n.0 r n.1) n.1), n.1)
