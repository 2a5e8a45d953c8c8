-- Counts as far as a bound: the bound of a sum or a product is that of the bounds.
use Rattle.std.proofs.Common.{◌≡◌, ℕ, zero, suc, ◌+◌, ◌*◌, ◌<◌, ◌≤◌, min, refl, sym, ap, ap₂, ◌∙◌, arith, inl, inr}
use Rattle.std.proofs.Math.Nat.{mul-le-mul_left}
use Rattle.std.proofs.lemmas.Bool.{cases_lt}
use Rattle.kp_ground_semantics.specs.Weights.{or_leaf}

-- ---- sums and products

pub cap_add : (m a b : ℕ) → min (min a m + min b m) m ≡ min (a + b) m
cap_add m a b = omega arith

both_small : (m a b : ℕ) → a ≤ m → b ≤ m → min (min a m * min b m) m ≡ min (a * b) m
both_small m a b small small' =
    let e : min a m ≡ a = omega arith in
    let f : min b m ≡ b = omega arith in
    ap₂ (λ x y. min (x * y) m) e f

both_large : (m x y : ℕ) → m ≤ x → m ≤ y → min x m ≡ min y m
both_large m x y p q = omega arith

-- a number that reaches the bound, times one that isn't 0
still_large : (m a k : ℕ) → m ≤ a → 0 < k → m ≤ a * k
still_large m a k p q =
    let e : a * 1 ≤ a * k = mul-le-mul_left a q in
    omega arith

first_large : (m a b : ℕ) → m ≤ a → min (min a m * min b m) m ≡ min (a * b) m
first_large m a zero p =
    let e : min zero m ≡ zero = omega arith in
    ap (λ y. min (min a m * y) m) e ∙ ap (λ y. min y m) (omega arith)
first_large zero a (suc b) p = omega arith
first_large (suc m) a (suc b) p =
    let e : suc m ≤ min a (suc m) = omega arith in
    let f : 0 < min (suc b) (suc m) = omega arith in
    let g : 0 < suc b = omega arith in
    both_large (suc m) (min a (suc m) * min (suc b) (suc m)) (a * suc b) (still_large (suc m) (min a (suc m)) (min (suc b) (suc m)) e f) (still_large (suc m) a (suc b) p g)

pub cap_mul : (m a b : ℕ) → min (min a m * min b m) m ≡ min (a * b) m
cap_mul m a b = elim (cases_lt a m) [
  | inl small ↦
      elim (cases_lt b m) [
        | inl small' ↦ both_small m a b (omega arith) (omega arith)
        | inr large ↦ ap (λ x. min x m) (swap (min a m) (min b m)) ∙ first_large m b a large ∙ ap (λ x. min x m) (swap b a)
      ]
  | inr large ↦ first_large m a b large
]
  where
    swap : (x y : ℕ) → x * y ≡ y * x
    swap x y = omega arith

-- ---- numbers that are one as far as the bound

-- they are one as far as m
pub record Alike (m a b : ℕ) : Type 0 where
  pub same : min a m ≡ min b m

pub alike_refl : (m a : ℕ) → Alike m a a
alike_refl m a = record { same = refl }

pub alike_cap : (m a : ℕ) → Alike m (min a m) a
alike_cap m a = record { same = omega arith }

pub alike_add : (m a a' b b' : ℕ) → Alike m a a' → Alike m b b' → Alike m (a + b) (a' + b')
alike_add m a a' b b' h g = record { same = sym (cap_add m a b) ∙ (ap₂ (λ x y. min (x + y) m) h.same g.same ∙ cap_add m a' b') }

pub alike_mul : (m a a' b b' : ℕ) → Alike m a a' → Alike m b b' → Alike m (a * b) (a' * b')
alike_mul m a a' b b' h g = record { same = sym (cap_mul m a b) ∙ (ap₂ (λ x y. min (x * y) m) h.same g.same ∙ cap_mul m a' b') }

pub alike_or_leaf : (m a b n k : ℕ) → 0 < m → Alike m a b → Alike m n k → Alike m (or_leaf a n) (or_leaf b k)
alike_or_leaf m a b zero zero p h g = h
alike_or_leaf m a b zero (suc k) p h g = let e = g.same in absurd (omega arith)
alike_or_leaf m a b (suc n) zero p h g = let e = g.same in absurd (omega arith)
alike_or_leaf m a b (suc n) (suc k) p h g = g

pub or_leaf-le : (m a n : ℕ) → a ≤ m → n ≤ m → or_leaf a n ≤ m
or_leaf-le m a zero p q = p
or_leaf-le m a (suc n) p q = q
