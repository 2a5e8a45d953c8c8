-- A table of pairs after one pair was written.
use Rattle.std.proofs.Common.{◌≡◌, ◌≢◌, ◌<◌, ◌≤◌, ◌+◌, ◌*◌, ◌/◌, ◌%◌, ℕ, Bool, true, false, ◌&&◌, ◌||◌, cond, List, [], ◌∷◌, length, filter, set, get_or, nat_eq, nat_lt, inl, inr, refl, sym, ap, ap₂, subst, ◌∙◌, arith}
use Rattle.std.proofs.lemmas.Bool.{and_parts, and_from, or_cases, or_left, or_right, ltb-true, lt-ltb, eqb-true, eq-eqb, false≢true, false_from_ne_true}
use Rattle.std.proofs.Math.Bool.{or_comm, and_comm}
use Rattle.std.proofs.lemmas.List.{length-set, get_or-set_same, get_or-set_other}
use Rattle.std.proofs.lemmas.Nat.{div-mul-add, mod-mul-add}
use Rattle.kp_base.specs.Lists.{Member}
use Rattle.kp_base.proofs.Cases.{orders}
use Rattle.kp_clash_exclusive.specs.Paired.{are_both, is_pair, words_of, place_of, is_marked, all_below, marked, IsSquare, IsWritten}
use Rattle.kp_clash_exclusive.specs.Removed.{IsWithout}
use Rattle.kp_clash_exclusive.proofs.Marked.{place_below, inside, in_all, marked_in, is_pair_marked}

-- ---- lists of which less passes a test

pub filter_no_more : {X : Type 0} (f g : X → Bool) (xs : List X) → ((x : X) → f x ≡ true → g x ≡ true) → length (filter f xs) ≤ length (filter g xs)
filter_no_more f g [] h = omega arith
filter_no_more {X} f g (x ∷ xs) h = by (f x) refl (g x) refl (filter_no_more f g xs h)
  where
    by : (a : Bool) → f x ≡ a → (b : Bool) → g x ≡ b → length (filter f xs) ≤ length (filter g xs) → length (cond a (x ∷ filter f xs) (filter f xs)) ≤ length (cond b (x ∷ filter g xs) (filter g xs))
    by true u true v le = omega (arith, le)
    by true u false v le = absurd (false≢true (sym v ∙ h x u))
    by false u true v le = omega (arith, le)
    by false u false v le = le

pub filter_fewer : {X : Type 0} (f g : X → Bool) (xs : List X) (y : X) → ((x : X) → f x ≡ true → g x ≡ true) → Member xs y → g y ≡ true → f y ≡ false → length (filter f xs) < length (filter g xs)
filter_fewer f g [] y h m k n = absurd m
filter_fewer {X} f g (x ∷ xs) y h m k n = elim m [
  | inl e ↦ here (ap f e ∙ n) (ap g e ∙ k)
  | inr r ↦ later (f x) refl (g x) refl (filter_fewer f g xs y h r k n)
]
  where
    less : (a b : Bool) → a ≡ false → b ≡ true → length (filter f xs) ≤ length (filter g xs) → length (cond a (x ∷ filter f xs) (filter f xs)) < length (cond b (x ∷ filter g xs) (filter g xs))
    less true b u v le = absurd (false≢true (sym u))
    less false true u v le = omega (arith, le)
    less false false u v le = absurd (false≢true v)

    here : f x ≡ false → g x ≡ true → length (cond (f x) (x ∷ filter f xs) (filter f xs)) < length (cond (g x) (x ∷ filter g xs) (filter g xs))
    here u v = less (f x) (g x) u v (filter_no_more f g xs h)

    later : (a : Bool) → f x ≡ a → (b : Bool) → g x ≡ b → length (filter f xs) < length (filter g xs) → length (cond a (x ∷ filter f xs) (filter f xs)) < length (cond b (x ∷ filter g xs) (filter g xs))
    later true u true v lt = omega (arith, lt)
    later true u false v lt = absurd (false≢true (sym v ∙ h x u))
    later false u true v lt = omega (arith, lt)
    later false u false v lt = lt

-- ---- places

place_is : (n p q r s : ℕ) → q < words_of n * 64 → s < words_of n * 64 → place_of n p q ≡ place_of n r s → (p ≡ r) × (q ≡ s)
place_is n p q r s h k e = by (words_of n * 64) h k e
  where
    by : (w : ℕ) → q < w → s < w → p * w + q ≡ r * w + s → (p ≡ r) × (q ≡ s)
    by w h k e = (sym (div-mul-add p w q h) ∙ (ap (λ m. m / w) e ∙ div-mul-add r w s k), sym (mod-mul-add p w q h) ∙ (ap (λ m. m % w) e ∙ mod-mul-add r w s k))

-- ---- either order

both_turned : (p q r s : ℕ) → are_both p q (s, r) ≡ are_both p q (r, s)
both_turned p q r s = ap₂ (λ a b. a || b) (and_comm (nat_eq s p) (nat_eq r q)) (and_comm (nat_eq s q) (nat_eq r p)) ∙ or_comm (nat_eq r q && nat_eq s p) (nat_eq r p && nat_eq s q)

-- ---- the two bits of a pair

-- the table with both of them so
abbrev pub both_set : ℕ → List Bool → ℕ → ℕ → Bool → List Bool
both_set n old p q b = set (set old (place_of n p q) b) (place_of n q p) b

module _ (n : ℕ) (old : List Bool) (square : IsSquare n old) (p q : ℕ) (ne : p ≢ q) (h : p < n) (k : q < n) (b : Bool) where
  there : (r s : ℕ) → r < n → s < n → place_of n r s < length old
  there r s x y = subst (λ (m : ℕ). place_of n r s < m) (sym square.square) (place_below n r s x (inside n s y))

  bit_second : get_or (both_set n old p q b) (place_of n q p) false ≡ b
  bit_second = get_or-set_same (set old (place_of n p q) b) (place_of n q p) b false (subst (λ (m : ℕ). place_of n q p < m) (sym (length-set old (place_of n p q) b)) (there q p k h))

  bit_first : get_or (both_set n old p q b) (place_of n p q) false ≡ b
  bit_first =
      get_or-set_other (set old (place_of n p q) b) (place_of n q p) (place_of n p q) b false (λ same. ne (place_is n p q q p (inside n q k) (inside n p h) same).0)
      ∙ get_or-set_same old (place_of n p q) b false (there p q h k)

  bit_other : (r s : ℕ) → s < words_of n * 64 → are_both p q (r, s) ≡ false → get_or (both_set n old p q b) (place_of n r s) false ≡ get_or old (place_of n r s) false
  bit_other r s l e =
      get_or-set_other (set old (place_of n p q) b) (place_of n q p) (place_of n r s) b false (λ same.
      let parts = place_is n r s q p l (inside n p h) same in
      false≢true (sym e ∙ or_right (nat_eq r p && nat_eq s q) (nat_eq r q && nat_eq s p) (and_from (nat_eq r q) (nat_eq s p) (eq-eqb r q parts.0) (eq-eqb s p parts.1))))
      ∙ get_or-set_other old (place_of n p q) (place_of n r s) b false (λ same.
      let parts = place_is n r s p q l (inside n q k) same in
      false≢true (sym e ∙ or_left (nat_eq r p && nat_eq s q) (nat_eq r q && nat_eq s p) (and_from (nat_eq r p) (nat_eq s q) (eq-eqb r p parts.0) (eq-eqb s q parts.1))))

  here : is_marked n (both_set n old p q b) p q ≡ b
  here = ap₂ (λ x y. x && (y && get_or (both_set n old p q b) (place_of n p q) false)) (lt-ltb p n h) (lt-ltb q n k) ∙ bit_first

  here_turned : is_marked n (both_set n old p q b) q p ≡ b
  here_turned = ap₂ (λ x y. x && (y && get_or (both_set n old p q b) (place_of n q p) false)) (lt-ltb q n k) (lt-ltb p n h) ∙ bit_second

  others : (r s : ℕ) → are_both p q (r, s) ≡ false → is_marked n (both_set n old p q b) r s ≡ is_marked n old r s
  others r s e = by (nat_lt r n) (nat_lt s n) refl
    where
      by : (x y : Bool) → nat_lt s n ≡ y → (x && (y && get_or (both_set n old p q b) (place_of n r s) false)) ≡ (x && (y && get_or old (place_of n r s) false))
      by false y f = refl
      by true false f = refl
      by true true f = bit_other r s (inside n s (ltb-true s n f)) e

  -- the two atoms in one of their orders
  one_of : (r s : ℕ) → are_both p q (r, s) ≡ true → (P : ℕ → ℕ → Type 0) → P p q → P q p → P r s
  one_of r s e P x y = elim (or_cases (nat_eq r p && nat_eq s q) (nat_eq r q && nat_eq s p) e) [
    | inl f ↦
        let parts = and_parts (nat_eq r p) (nat_eq s q) f in
        subst (λ (u : ℕ). P u s) (sym (eqb-true r p parts.0)) (subst (λ (v : ℕ). P p v) (sym (eqb-true s q parts.1)) x)
    | inr f ↦
        let parts = and_parts (nat_eq r q) (nat_eq s p) f in
        subst (λ (u : ℕ). P u s) (sym (eqb-true r q parts.0)) (subst (λ (v : ℕ). P q v) (sym (eqb-true s p parts.1)) y)
  ]

  still_square : IsSquare n (both_set n old p q b)
  still_square = record {
    square = length-set (set old (place_of n p q) b) (place_of n q p) b ∙ (length-set old (place_of n p q) b ∙ square.square);
    counted = square.counted;
    either_order = λ r s. turned r s (are_both p q (r, s)) refl;
    only = λ r s x y m. only r s x y m (are_both p q (r, s)) refl;
  }
    where
      turned : (r s : ℕ) (x : Bool) → are_both p q (r, s) ≡ x → is_marked n (both_set n old p q b) r s ≡ is_marked n (both_set n old p q b) s r
      turned r s true e = one_of r s e (λ u v. is_marked n (both_set n old p q b) u v ≡ is_marked n (both_set n old p q b) v u) (here ∙ sym here_turned) (here_turned ∙ sym here)
      turned r s false e = others r s e ∙ (square.either_order r s ∙ sym (others s r (both_turned p q r s ∙ e)))

      only : (r s : ℕ) → r < n → s < words_of n * 64 → get_or (both_set n old p q b) (place_of n r s) false ≡ true → (x : Bool) → are_both p q (r, s) ≡ x → (s < n) × (r ≢ s)
      only r s x y m true e = one_of r s e (λ u v. (v < n) × (u ≢ v)) (k, ne) (h, λ f. ne (sym f))
      only r s x y m false e = square.only r s x y (sym (bit_other r s y e) ∙ m)

  pub written : IsWritten n old (both_set n old p q b) p q b
  written = record { square = still_square; here = here; others = others }

-- clearing the bits of a pair leaves fewer
pub fewer : (n : ℕ) (old : List Bool) → IsSquare n old → (p q : ℕ) → p ≢ q → p < n → q < n → is_marked n old p q ≡ true → length (marked n (both_set n old p q false)) < length (marked n old)
fewer n old square p q ne h k m = elim (orders p q ne) [
  | inl lt ↦ without p q lt h k m (here n old square p q ne h k false)
  | inr lt ↦ without q p lt k h (square.either_order q p ∙ m) (here_turned n old square p q ne h k false)
]
  where
    new : List Bool
    new = both_set n old p q false

    in_order : List Bool → ℕ × ℕ → Bool
    in_order bits x = nat_lt x.0 x.1 && is_marked n bits x.0 x.1

    before : (r s : ℕ) → is_marked n new r s ≡ true → (x : Bool) → are_both p q (r, s) ≡ x → is_marked n old r s ≡ true
    before r s t true e = absurd (false≢true (sym (one_of n old square p q ne h k false r s e (λ u v. is_marked n new u v ≡ false) (here n old square p q ne h k false) (here_turned n old square p q ne h k false)) ∙ t))
    before r s t false e = sym (others n old square p q ne h k false r s e) ∙ t

    less : (x : ℕ × ℕ) → in_order new x ≡ true → in_order old x ≡ true
    less x t = let parts = and_parts (nat_lt x.0 x.1) (is_marked n new x.0 x.1) t in and_from (nat_lt x.0 x.1) (is_marked n old x.0 x.1) parts.0 (before x.0 x.1 parts.1 (are_both p q (x.0, x.1)) refl)

    without : (u v : ℕ) → u < v → u < n → v < n → is_marked n old u v ≡ true → is_marked n new u v ≡ false → length (marked n new) < length (marked n old)
    without u v lt x y was gone =
        filter_fewer (in_order new) (in_order old) (all_below n) (u, v) less (in_all n u v x y)
        (and_from (nat_lt u v) (is_marked n old u v) (lt-ltb u v lt) was)
        (false_from_ne_true (in_order new (u, v)) (λ t. false≢true (sym gone ∙ (and_parts (nat_lt u v) (is_marked n new u v) t).1)))

-- ---- pairs

-- a pair whose bits are cleared is gone, and no other
pub cleared : (n : ℕ) (old : List Bool) → IsSquare n old → (p q : ℕ) → is_pair (marked n old) p q ≡ true → IsSquare n (both_set n old p q false) × IsWithout p q (marked n old) (marked n (both_set n old p q false))
cleared n old square p q h =
    let set_before : is_marked n old p q ≡ true = sym (is_pair_marked n old square p q) ∙ h in
    let x = marked_in n old square p q set_before in
    let w = written n old square p q x.0 x.1 x.2 false in (
      w.square,
      record {
        others = λ r s e. is_pair_marked n (both_set n old p q false) w.square r s ∙ (w.others r s e ∙ sym (is_pair_marked n old square r s));
        fewer = fewer n old square p q x.0 x.1 x.2 set_before;
      },
    )
