-- Pairs that don't stay are removed one by one, until each one stays.
use Rattle.std.proofs.Common.{◌≡◌, ◌⊎◌, ◌<◌, ◌≤◌, inl, inr, refl, sym, ap, subst, ◌∙◌, ℕ, zero, suc, Bool, true, false, not, ◌&&◌, cond, List, [], ◌∷◌, filter, length, nat_eq, arith}
use Rattle.std.proofs.lemmas.Bool.{and_parts, and_from, or_cases, or_left, or_right, false≢true, false_from_ne_true, eqb-true, eq-eqb}
use Rattle.kp_base.specs.declared.ground.Ground.{Ground}
use Rattle.kp_base.specs.Lists.{Member}
use Rattle.kp_base.specs.Clashes.{Pairs}
use Rattle.kp_base.proofs.Lists.{all_weaker, any_from, any_member, bool_same, member_filter, filter_member}
use Rattle.kp_clash_exclusive.specs.Paired.{are_both, is_pair}
use Rattle.kp_clash_exclusive.specs.Removed.{IsWithout, Shrinks}
use Rattle.kp_clash_exclusive.specs.Settled.{stays_in, stays}
use Rattle.kp_clash.specs.Settling.{IsSettled}
use Rattle.kp_clash_exclusive.proofs.Public.{stays_in_parts, stays_by_parts, broken_pair_may_go, shrinks_further}

-- ---- lists

-- some element fails a test, or each passes
fails_or_all : {X : Type 0} (k : X → Bool) (xs : List X) → ((x : X) × Member xs x × (k x ≡ false)) ⊎ ((x : X) → Member xs x → k x ≡ true)
fails_or_all k [] = inr (λ x m. absurd m)
fails_or_all {X = X} k (x ∷ xs) = go (k x) refl (fails_or_all k xs)
  where
    go : (b : Bool) → k x ≡ b → ((y : X) × Member xs y × (k y ≡ false)) ⊎ ((y : X) → Member xs y → k y ≡ true) → ((y : X) × Member (x ∷ xs) y × (k y ≡ false)) ⊎ ((y : X) → Member (x ∷ xs) y → k y ≡ true)
    go false is rest = inl (x, inl refl, is)
    go true is (inl y) = inl (y.0, inr y.1, y.2)
    go true is (inr all) = inr (λ y m. elim m [ inl e ↦ subst (λ z. k z ≡ true) e is | inr r ↦ all y r ])

filter_no_more : {X : Type 0} (k : X → Bool) (xs : List X) → length (filter k xs) ≤ length xs
filter_no_more k [] = omega arith
filter_no_more k (x ∷ xs) = go (k x) (filter_no_more k xs)
  where
    go : (b : Bool) → length (filter k xs) ≤ length xs → length (cond b (x ∷ filter k xs) (filter k xs)) ≤ suc (length xs)
    go true le = omega (arith, le)
    go false le = omega (arith, le)

filter_fewer : {X : Type 0} (k : X → Bool) (xs : List X) (x : X) → Member xs x → k x ≡ false → length (filter k xs) < length xs
filter_fewer k [] x m out = absurd m
filter_fewer k (y ∷ xs) x m out = elim m [
  | inl e ↦ first (k y) (ap k e ∙ out) (filter_no_more k xs)
  | inr r ↦ later (k y) (filter_fewer k xs x r out)
]
  where
    first : (b : Bool) → b ≡ false → length (filter k xs) ≤ length xs → length (cond b (y ∷ filter k xs) (filter k xs)) < suc (length xs)
    first true is le = absurd (false≢true (sym is))
    first false is le = omega (arith, le)

    later : (b : Bool) → length (filter k xs) < length xs → length (cond b (y ∷ filter k xs) (filter k xs)) < suc (length xs)
    later true lt = omega (arith, lt)
    later false lt = omega (arith, lt)

-- ---- pairs without one

abbrev leaves : ℕ → ℕ → ℕ × ℕ → Bool
leaves p q x = not (are_both p q x)

abbrev without : ℕ → ℕ → List (ℕ × ℕ) → List (ℕ × ℕ)
without p q ps = filter (leaves p q) ps

-- a pair of numbers that is two pairs makes these one
one_pair : (p q r s : ℕ) (x : ℕ × ℕ) → are_both p q x ≡ true → are_both r s x ≡ true → are_both p q (r, s) ≡ true
one_pair p q r s x h k = elim (or_cases (nat_eq x.0 r && nat_eq x.1 s) (nat_eq x.0 s && nat_eq x.1 r) k) [
  | inl e ↦
      let same = and_parts (nat_eq x.0 r) (nat_eq x.1 s) e in
      subst (λ z. are_both p q (z, s) ≡ true) (eqb-true x.0 r same.0) (subst (λ z. are_both p q (x.0, z) ≡ true) (eqb-true x.1 s same.1) h)
  | inr e ↦
      let same = and_parts (nat_eq x.0 s) (nat_eq x.1 r) e in
      other (subst (λ z. are_both p q (z, r) ≡ true) (eqb-true x.0 s same.0) (subst (λ z. are_both p q (x.0, z) ≡ true) (eqb-true x.1 r same.1) h))
]
  where
    other : are_both p q (s, r) ≡ true → are_both p q (r, s) ≡ true
    other h = elim (or_cases (nat_eq s p && nat_eq r q) (nat_eq s q && nat_eq r p) h) [
      | inl e ↦ let both = and_parts (nat_eq s p) (nat_eq r q) e in or_right (nat_eq r p && nat_eq s q) (nat_eq r q && nat_eq s p) (and_from (nat_eq r q) (nat_eq s p) both.1 both.0)
      | inr e ↦ let both = and_parts (nat_eq s q) (nat_eq r p) e in or_left (nat_eq r p && nat_eq s q) (nat_eq r q && nat_eq s p) (and_from (nat_eq r p) (nat_eq s q) both.1 both.0)
    ]

itself : (x : ℕ × ℕ) → are_both x.0 x.1 x ≡ true
itself x = or_left (nat_eq x.0 x.0 && nat_eq x.1 x.1) (nat_eq x.0 x.1 && nat_eq x.1 x.0) (and_from (nat_eq x.0 x.0) (nat_eq x.1 x.1) (eq-eqb x.0 x.0 refl) (eq-eqb x.1 x.1 refl))

is_without : (x : ℕ × ℕ) (ps : List (ℕ × ℕ)) → Member ps x → IsWithout x.0 x.1 ps (without x.0 x.1 ps)
is_without x ps m = record {
  others = λ r s apart. bool_same (is_pair (without x.0 x.1 ps) r s) (is_pair ps r s)
      (λ h. let y = any_member (are_both r s) (without x.0 x.1 ps) h in any_from (are_both r s) ps y.0 (filter_member (leaves x.0 x.1) ps y.0 y.1).0 y.2)
      (λ h.
      let y = any_member (are_both r s) ps h in
      let out : are_both x.0 x.1 y.0 ≡ false = false_from_ne_true (are_both x.0 x.1 y.0) (λ t. false≢true (sym apart ∙ one_pair x.0 x.1 r s y.0 t y.2)) in
      any_from (are_both r s) (without x.0 x.1 ps) y.0 (member_filter (leaves x.0 x.1) ps y.0 y.1 (ap not out)) y.2);
  fewer = filter_fewer (leaves x.0 x.1) ps x m (ap not (itself x));
}

-- ---- until each one stays

stays_turned : (g : Ground) (pairs : Pairs) (p q : ℕ) → stays g pairs p q ≡ true → stays g pairs q p ≡ true
stays_turned g pairs p q h = all_weaker (stays_in pairs p q) (stays_in pairs q p) g.actions (λ a _ k.
    let f = stays_in_parts pairs p q a k in
    stays_by_parts pairs q p a (record { both = f.both_turned; both_turned = f.both; apart = f.apart_turned; apart_turned = f.apart })) h

-- where each listed pair stays, each pair does
all_settled : (g : Ground) (ps : List (ℕ × ℕ)) → ((x : ℕ × ℕ) → Member ps x → stays g (is_pair ps) x.0 x.1 ≡ true) → (p q : ℕ) → is_pair ps p q ≡ true → stays g (is_pair ps) p q ≡ true
all_settled g ps each p q h =
    let x = any_member (are_both p q) ps h in
    elim (or_cases (nat_eq x.0.0 p && nat_eq x.0.1 q) (nat_eq x.0.0 q && nat_eq x.0.1 p) x.2) [
      | inl e ↦
          let same = and_parts (nat_eq x.0.0 p) (nat_eq x.0.1 q) e in
          subst (λ z. stays g (is_pair ps) z q ≡ true) (eqb-true x.0.0 p same.0) (subst (λ z. stays g (is_pair ps) x.0.0 z ≡ true) (eqb-true x.0.1 q same.1) (each x.0 x.1))
      | inr e ↦
          let same = and_parts (nat_eq x.0.0 q) (nat_eq x.0.1 p) e in
          stays_turned g (is_pair ps) q p (subst (λ z. stays g (is_pair ps) z p ≡ true) (eqb-true x.0.0 q same.0) (subst (λ z. stays g (is_pair ps) x.0.0 z ≡ true) (eqb-true x.0.1 p same.1) (each x.0 x.1)))
    ]

-- one that doesn't stay is removed
record Removal (g : Ground) (start : List (ℕ × ℕ)) : Type 0 where
  left : List (ℕ × ℕ)
  shrinks : Shrinks g.actions start left
  fewer : length left < length start

removed : (g : Ground) (start : List (ℕ × ℕ)) (x : ℕ × ℕ) → Member start x → stays g (is_pair start) x.0 x.1 ≡ false → Removal g start
removed g start x m broken =
    let less = is_without x start m in record {
      left = without x.0 x.1 start;
      shrinks = broken_pair_may_go g.actions x.0 x.1 start (without x.0 x.1 start) (record { pair = any_from (are_both x.0 x.1) start x m (itself x); broken = broken }) less;
      fewer = less.fewer;
    }

settled_or_removed : (g : Ground) (start : List (ℕ × ℕ)) → IsSettled g start start ⊎ Removal g start
settled_or_removed g start = elim (fails_or_all (λ x. stays g (is_pair start) x.0 x.1) start) [
  | inr each ↦ inl (record { shrinks = record { part = λ p q h. h; keeps = λ some kept part. part; no_more = omega arith }; settled = all_settled g start each })
  | inl x ↦ inr (removed g start x.0 x.1 x.2)
]

-- as often as there are pairs, until each one stays
pub settled : (g : Ground) (most : ℕ) (start : List (ℕ × ℕ)) → length start ≤ most → (end : List (ℕ × ℕ)) × IsSettled g start end
settled g zero start le = elim (settled_or_removed g start) [
  | inl end ↦ (start, end)
  | inr r ↦ let lt = r.fewer in absurd (omega (arith, le, lt))
]
settled g (suc most) start le = elim (settled_or_removed g start) [
  | inl end ↦ (start, end)
  | inr r ↦
      let rest = settled g most r.left (let lt = r.fewer in omega (arith, le, lt)) in
      (rest.0, record { shrinks = shrinks_further g.actions start r.left rest.0 r.shrinks rest.1.shrinks; settled = rest.1.settled })
]
