-- The pairs of atoms that no initial state has together, as a list.
use Rattle.std.proofs.Common.{◌≡◌, ◌≢◌, ◌<◌, inl, inr, refl, sym, ap, subst, ◌∙◌, ℕ, Bool, true, false, not, ◌&&◌, List, [], ◌∷◌, filter, map, nat_eq, nat_lt, arith}
use Rattle.std.proofs.lemmas.Bool.{and_parts, and_from, or_cases, or_left, false≢true, not-true, ltb-true, lt-ltb, eqb-true, eq-eqb}
use Rattle.std.specs.List.{range_with_len}
use Rattle.kp_base.specs.declared.ground.Initial.{Initial}
use Rattle.kp_base.specs.Planning.{Member, positive, negative, State, is_model, Pairs, IsClosure, IsOfAtoms, closure}
use Rattle.kp_base.specs.Steps.{has}
use Rattle.kp_base.proofs.Members.{range_only}
use Rattle.kp_base.proofs.Lists.{any_from, any_member, flat_member, map_member, member_filter, filter_member}
use Rattle.kp_base.proofs.Cases.{orders}
use Rattle.kp_base.proofs.Closures.{closure_over_first_atoms}
use Rattle.kp_clash_exclusive.specs.Paired.{are_both, is_pair, all_below}
use Rattle.kp_clash.specs.Settling.{AreNeverTogether}
use Rattle.kp_clash_exclusive.proofs.Public.{pair_turned, two_below_are_among_all}

-- each of the pairs has two numbers below n
below_in : (n : ℕ) (x : ℕ × ℕ) → Member (all_below n) x → (x.0 < n) × (x.1 < n)
below_in n x m =
    let p = flat_member (λ p. map (λ q. (p, q)) (range_with_len 0 n)) (range_with_len 0 n) x m in
    let q = map_member (λ q. (p.0, q)) (range_with_len 0 n) x p.2 in
    let first : p.0 ≡ x.0 = ap (λ (y : ℕ × ℕ). y.0) q.2 in
    let second : q.0 ≡ x.1 = ap (λ (y : ℕ × ℕ). y.1) q.2 in
    let a = range_only 0 n p.0 p.1 in
    let b = range_only 0 n q.0 q.1 in
    (omega (arith, first, a), omega (arith, second, b))

module _ (i : Initial) (n : ℕ) (over : IsOfAtoms n i) where
  -- where the first is true the second is known to be false
  abbrev denied_by : Pairs
  denied_by p q = has (closure i n (positive p ∷ [])) (negative q)

  abbrev in_order : ℕ × ℕ → Bool
  in_order x = nat_lt x.0 x.1 && denied_by x.0 x.1

  abbrev pub at_start : List (ℕ × ℕ)
  at_start = filter in_order (all_below n)

  -- two atoms that no initial state has together
  record AreApart (p q : ℕ) : Type 0 where
    lower : p < n
    upper : q < n
    differ : p ≢ q
    never : (s : State) → is_model i s ≡ true → (s p && s q) ≡ false

  exact : (p : ℕ) → p < n → IsClosure n i (positive p ∷ []) (closure i n (positive p ∷ []))
  exact p lt = (closure_over_first_atoms i n over (positive p ∷ []) (and_from (nat_lt p n) true (lt-ltb p n lt) refl)).closure

  never_by : (p q : ℕ) → p < n → denied_by p q ≡ true → (s : State) → is_model i s ≡ true → (s p && s q) ≡ false
  never_by p q lt h s model = go (s p) (s q) (λ on. not-true (s q) ((exact p lt).entailed (negative q) h s model (and_from (s p) true on refl)))
    where
      go : (a b : Bool) → (a ≡ true → b ≡ false) → (a && b) ≡ false
      go true b f = f refl
      go false b f = refl

  by_never : (p q : ℕ) → p < n → q < n → ((s : State) → is_model i s ≡ true → (s p && s q) ≡ false) → denied_by p q ≡ true
  by_never p q lt below never = (exact p lt).whole (negative q) below (λ s model meets. go (s p) (s q) (never s model) (and_parts (s p) true meets).0)
    where
      go : (a b : Bool) → (a && b) ≡ false → a ≡ true → not b ≡ true
      go true b none on = ap not none
      go false b none on = absurd (false≢true on)

  turned : (p q : ℕ) → AreApart p q → AreApart q p
  turned p q a = record {
    lower = a.upper;
    upper = a.lower;
    differ = λ e. a.differ (sym e);
    never = λ s model. go (s p) (s q) (a.never s model);
  }
    where
      go : (b c : Bool) → (b && c) ≡ false → (c && b) ≡ false
      go true c none = subst (λ z. (z && true) ≡ false) (sym none) refl
      go false true none = refl
      go false false none = refl

  -- what is listed
  listed : (x : ℕ × ℕ) → Member at_start x → AreApart x.0 x.1
  listed x m =
      let found = filter_member in_order (all_below n) x m in
      let below = below_in n x found.0 in
      let parts = and_parts (nat_lt x.0 x.1) (denied_by x.0 x.1) found.1 in
      let lt = ltb-true x.0 x.1 parts.0 in
      record { lower = below.0; upper = below.1; differ = λ e. absurd (omega (arith, lt, e)); never = never_by x.0 x.1 below.0 parts.1 }

  pair_apart : (p q : ℕ) → is_pair at_start p q ≡ true → AreApart p q
  pair_apart p q h =
      let x = any_member (are_both p q) at_start h in
      elim (or_cases (nat_eq x.0.0 p && nat_eq x.0.1 q) (nat_eq x.0.0 q && nat_eq x.0.1 p) x.2) [
        | inl e ↦
            let same = and_parts (nat_eq x.0.0 p) (nat_eq x.0.1 q) e in
            subst (λ z. AreApart z q) (eqb-true x.0.0 p same.0) (subst (AreApart x.0.0) (eqb-true x.0.1 q same.1) (listed x.0 x.1))
        | inr e ↦
            let same = and_parts (nat_eq x.0.0 q) (nat_eq x.0.1 p) e in
            turned q p (subst (λ z. AreApart z p) (eqb-true x.0.0 q same.0) (subst (AreApart x.0.0) (eqb-true x.0.1 p same.1) (listed x.0 x.1)))
      ]

  pair_there : (p q : ℕ) → p < q → AreApart p q → is_pair at_start p q ≡ true
  pair_there p q lt a =
      any_from (are_both p q) at_start (p, q)
      (member_filter in_order (all_below n) (p, q) (two_below_are_among_all n p q a.lower a.upper) (and_from (nat_lt p q) (denied_by p q) (lt-ltb p q lt) (by_never p q a.lower a.upper a.never)))
      (or_left (nat_eq p p && nat_eq q q) (nat_eq p q && nat_eq q p) (and_from (nat_eq p p) (nat_eq q q) (eq-eqb p p refl) (eq-eqb q q refl)))

  apart_pair : (p q : ℕ) → AreApart p q → is_pair at_start p q ≡ true
  apart_pair p q a = elim (orders p q a.differ) [
    | inl lt ↦ pair_there p q lt a
    | inr lt ↦ pair_turned at_start p q ∙ pair_there q p lt (turned p q a)
  ]

  pub never_together : AreNeverTogether i n (is_pair at_start)
  never_together = record {
    are_pairs = record {
      of_atoms = λ p q h. (pair_apart p q h).lower;
      different = λ p q h. (pair_apart p q h).differ;
      either_order = λ p q h. pair_turned at_start q p ∙ h;
    };
    never = λ p q h. (pair_apart p q h).never;
    all = λ p q lower upper differ never. apart_pair p q (record { lower = lower; upper = upper; differ = differ; never = never });
  }
