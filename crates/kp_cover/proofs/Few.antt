-- How many ways there are to choose a literal of each tag, as far as a bound.
use Rattle.std.proofs.Common.{◌≡◌, ◌<◌, ◌≤◌, ◌+◌, ◌*◌, ℕ, zero, suc, min, List, length, take, get_or, sym, ap, ◌∙◌, arith, inl, inr}
use Rattle.std.proofs.lemmas.Bool.{cases_lt}
use Rattle.std.proofs.Math.Nat.{le-mul_of_pos_right, mul-zero, min-eq_left, min-eq_right}
use Rattle.std.proofs.lemmas.List.Sums.{fold_more}
use Rattle.kp_base.specs.declared.lit.Lit.{Lit}
use Rattle.kp_cover.specs.Covered.{ways}

-- a product may stop at the bound before each factor
one_capped : (m a b : ℕ) → min (min a m * b) m ≡ min (a * b) m
one_capped m a zero = ap (λ n. min n m) (mul-zero (min a m) ∙ sym (mul-zero a))
one_capped m a (suc b) = elim (cases_lt a m) [
  | inl less ↦ ap (λ n. min (n * suc b) m) (min-eq_left (omega (arith, less)))
  | inr more ↦
      let much : m ≤ m * suc b = le-mul_of_pos_right m (omega arith) in
      let rest : a ≤ a * suc b = le-mul_of_pos_right a (omega arith) in
      let low : min (m * suc b) m ≡ m = min-eq_right much in
      let high : min (a * suc b) m ≡ m = min-eq_right (omega (arith, more, rest)) in
      ap (λ n. min (n * suc b) m) (min-eq_right (omega (arith, more))) ∙ (low ∙ sym high)
]

-- how many literals the next tag has is a factor
pub next_ways : (m : ℕ) (tags : List (List Lit)) (i : ℕ) (t : List Lit) (n : ℕ) → i < length tags → t ≡ get_or tags i t → n ≡ min (ways (take i tags)) m → min (n * length t) m ≡ min (ways (take (i + 1) tags)) m
next_ways m tags i t n lt is h =
    ap (λ p. min (p * length t) m) h ∙ (one_capped m (ways (take i tags)) (length t)
    ∙ ap (λ s. min s m) (ap (λ u. ways (take i tags) * length u) is ∙ sym (fold_more (λ k u. k * length u) 1 tags i t lt)))
