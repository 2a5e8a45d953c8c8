-- The list of the pairs that are marked in a table has just these pairs.
use Rattle.std.proofs.Common.{◌≡◌, ◌≢◌, ◌⊎◌, ⊎_elim, ◌<◌, ◌≤◌, ◌+◌, ◌*◌, ◌/◌, ◌%◌, ◌↔◌, ℕ, suc, Bool, true, false, ◌&&◌, List, Some, get_or, slice_get, map, nat_eq, nat_lt, inl, inr, refl, sym, ap, ap₂, subst, ◌∙◌, arith}
use Rattle.std.proofs.lemmas.Bool.{and_parts, and_from, or_cases, or_left, or_right, ltb-true, lt-ltb, eqb-true, eq-eqb, cases_lt}
use Rattle.std.proofs.lemmas.Grind.{div_ceil_times}
use Rattle.std.proofs.lemmas.Option.{slice_get-get_or, get_or_from_slice_get}
use Rattle.std.proofs.Math.Nat.{mul-le-mul, mul_assoc, suc-mul}
use Rattle.std.specs.List.{range_with_len}
use Rattle.kp_base.specs.Lists.{Member}
use Rattle.kp_base.proofs.Lists.{bool_same, any_from, any_member, member_map, member_flat_map, member_filter, filter_member, range_there}
use Rattle.kp_base.proofs.Cases.{orders}
use Rattle.kp_clash_exclusive.specs.Paired.{are_both, is_pair, words_of, place_of, is_marked, all_below, marked, IsSquare}

-- ---- places

-- a row has its bits, and less than one word more
pub width : (n : ℕ) → (n ≤ words_of n * 64) × (words_of n * 64 < n + 64)
width n = div_ceil_times n 64 (omega arith)

pub place_below : (n p q : ℕ) → p < n → q < words_of n * 64 → place_of n p q < n * (words_of n * 64)
place_below n p q h k = by (words_of n * 64) k
  where
    by : (w : ℕ) → q < w → p * w + q < n * w
    by w k = let m : (suc p) * w ≤ n * w = mul-le-mul {n₁ = suc p} {m₁ = w} {n₂ = n} {m₂ = w} (omega arith) (omega arith) in let e : (suc p) * w ≡ p * w + w = suc-mul p w in omega (arith, m, e, k)

pub inside : (n q : ℕ) → q < n → q < words_of n * 64
inside n q h = let w = (width n).0 in omega (arith, h, w)

-- a table that a `u32` counts has few rows
pub few : (n : ℕ) → n * (words_of n * 64) < 4294967296 → n < 65536
few n h = ⊎_elim (λ (l : n < 65536). l) (λ ge.
    let m : 65536 * 65536 ≤ n * (words_of n * 64) = mul-le-mul {n₁ = 65536} {m₁ = 65536} {n₂ = n} {m₂ = words_of n * 64} ge (let w = (width n).0 in omega (arith, ge, w)) in
    absurd (omega (arith, m, h))) (cases_lt n 65536)

-- ---- lists

pub in_all : (n p q : ℕ) → p < n → q < n → Member (all_below n) (p, q)
in_all n p q h k =
    member_flat_map (λ p. map (λ q. (p, q)) (range_with_len 0 n)) (range_with_len 0 n) p (p, q) (range_there 0 n p (omega arith) (omega arith))
    (member_map (λ q. (p, q)) (range_with_len 0 n) q (range_there 0 n q (omega arith) (omega arith)))

module _ (n : ℕ) (bits : List Bool) (square : IsSquare n bits) where
  -- what is marked is two different numbers below n
  pub marked_in : (p q : ℕ) → is_marked n bits p q ≡ true → (p ≢ q) × (p < n) × (q < n)
  marked_in p q h =
      let x = and_parts (nat_lt p n) _ h in
      let y = and_parts (nat_lt q n) _ x.1 in
      let lower = ltb-true p n x.0 in
      let upper = ltb-true q n y.0 in
      ((square.only p q lower (inside n q upper) y.1).1, lower, upper)

  pub is_pair_marked : (p q : ℕ) → is_pair (marked n bits) p q ≡ is_marked n bits p q
  is_pair_marked p q = bool_same (is_pair (marked n bits) p q) (is_marked n bits p q) found kept
    where
      in_order : ℕ × ℕ → Bool
      in_order y = nat_lt y.0 y.1 && is_marked n bits y.0 y.1

      found : is_pair (marked n bits) p q ≡ true → is_marked n bits p q ≡ true
      found h =
          let x = any_member (are_both p q) (marked n bits) h in
          let here = (and_parts (nat_lt x.0.0 x.0.1) (is_marked n bits x.0.0 x.0.1) (filter_member in_order (all_below n) x.0 x.1).1).1 in
          elim (or_cases (nat_eq x.0.0 p && nat_eq x.0.1 q) (nat_eq x.0.0 q && nat_eq x.0.1 p) x.2) [
            | inl e ↦
                let parts = and_parts (nat_eq x.0.0 p) (nat_eq x.0.1 q) e in
                ap₂ (is_marked n bits) (sym (eqb-true x.0.0 p parts.0)) (sym (eqb-true x.0.1 q parts.1)) ∙ here
            | inr e ↦
                let parts = and_parts (nat_eq x.0.0 q) (nat_eq x.0.1 p) e in
                square.either_order p q ∙ (ap₂ (is_marked n bits) (sym (eqb-true x.0.0 q parts.0)) (sym (eqb-true x.0.1 p parts.1)) ∙ here)
          ]

      listed : (u v : ℕ) → u < v → v < n → is_marked n bits u v ≡ true → are_both p q (u, v) ≡ true → is_pair (marked n bits) p q ≡ true
      listed u v lt below h both =
          any_from (are_both p q) (marked n bits) (u, v)
          (member_filter in_order (all_below n) (u, v) (in_all n u v (omega (arith, lt, below)) below) (and_from (nat_lt u v) (is_marked n bits u v) (lt-ltb u v lt) h)) both

      kept : is_marked n bits p q ≡ true → is_pair (marked n bits) p q ≡ true
      kept h = let x = marked_in p q h in elim (orders p q x.0) [
        | inl lt ↦ listed p q lt x.2 h (or_left (nat_eq p p && nat_eq q q) (nat_eq p q && nat_eq q p) (and_from (nat_eq p p) (nat_eq q q) (eq-eqb p p refl) (eq-eqb q q refl)))
        | inr lt ↦ listed q p lt x.1 (square.either_order q p ∙ h) (or_right (nat_eq q p && nat_eq p q) (nat_eq q q && nat_eq p p) (and_from (nat_eq q q) (nat_eq p p) (eq-eqb q q refl) (eq-eqb p p refl)))
      ]

  pub pair_in : (p q : ℕ) → is_pair (marked n bits) p q ≡ true → (p ≢ q) × (p < n) × (q < n)
  pair_in p q h = marked_in p q (sym (is_pair_marked p q) ∙ h)

  -- ---- words of a row

  place_in_word : (p k q : ℕ) → q / 64 ≡ k → (p * words_of n + k) * 64 + q % 64 ≡ place_of n p q
  place_in_word p k q e = by (words_of n)
    where
      by : (w : ℕ) → (p * w + k) * 64 + q % 64 ≡ p * (w * 64) + q
      by w = let a : p * w * 64 ≡ p * (w * 64) = mul_assoc p w 64 in omega (arith, a, e)

  pub in_word : (p k q : ℕ) → p < n → k < words_of n → q / 64 ≡ k → (slice_get bits ((p * words_of n + k) * 64 + q % 64) ≡ Some true) ↔ (is_pair (marked n bits) p q ≡ true)
  in_word p k q h below e = subst (λ (i : ℕ). (slice_get bits i ≡ Some true) ↔ (is_pair (marked n bits) p q ≡ true)) (sym (place_in_word p k q e)) (set_pair, pair_set)
    where
      in_row : q < words_of n * 64
      in_row = omega (arith, below, e)

      set_pair : slice_get bits (place_of n p q) ≡ Some true → is_pair (marked n bits) p q ≡ true
      set_pair s =
          let b = get_or_from_slice_get bits (place_of n p q) true false s in
          let q_below = (square.only p q h in_row b).0 in
          is_pair_marked p q ∙ and_from (nat_lt p n) _ (lt-ltb p n h) (and_from (nat_lt q n) (get_or bits (place_of n p q) false) (lt-ltb q n q_below) b)

      pair_set : is_pair (marked n bits) p q ≡ true → slice_get bits (place_of n p q) ≡ Some true
      pair_set m =
          let b : get_or bits (place_of n p q) false ≡ true = (and_parts (nat_lt q n) _ (and_parts (nat_lt p n) _ (sym (is_pair_marked p q) ∙ m)).1).1 in
          slice_get-get_or bits (place_of n p q) false (subst (λ (m : ℕ). place_of n p q < m) (sym square.square) (place_below n p q h in_row)) ∙ ap Some b

  -- past the rows and past their ends there are no pairs
  pub past_rows : (p q : ℕ) → n ≤ p → is_pair (marked n bits) p q ≡ true → ⊥
  past_rows p q le h = let x = (pair_in p q h).1 in omega (arith, le, x)

  pub past_words : (p k q : ℕ) → words_of n ≤ k → q / 64 ≡ k → is_pair (marked n bits) p q ≡ true → ⊥
  past_words p k q le e h =
      let x = (pair_in p q h).2 in
      let w = (width n).0 in
      omega (arith, le, e, x, w)

-- the number of a word of the table
pub word_below : (n p k : ℕ) → p < n → k < words_of n → p * words_of n + k < n * (words_of n * 64)
word_below n p k h below = by (words_of n) below
  where
    by : (w : ℕ) → k < w → p * w + k < n * (w * 64)
    by w l =
        let m : (suc p) * w ≤ n * (w * 64) = mul-le-mul {n₁ = suc p} {m₁ = w} {n₂ = n} {m₂ = w * 64} (omega arith) (omega arith) in
        let e : (suc p) * w ≡ p * w + w = suc-mul p w in
        omega (arith, m, e, l)
