-- Numbers of sets, row by row.
use Rattle.std.proofs.Common.{◌≡◌, ◌<◌, ◌≤◌, ◌+◌, ◌-◌, ◌^◌, ℕ, zero, suc, List, length, min, get_or, sym, ap, ap₂, ◌∙◌, add-one, arith}
use Rattle.kp_cover_subsets.specs.Subsets.{choose, capped}
use Rattle.kp_cover_subsets.specs.Counted.{IsPascal, IsNext}

-- a row is made as far as a place
pub record IsMade (old row : List ℕ) (before i : ℕ) : Type 0 where
  pub long : length row ≡ length old
  pub none : i ≡ 0 → before ≡ 0
  pub last : (k : ℕ) → k + 1 ≡ i → before ≡ get_or old k 0
  pub first : 0 < i → get_or row 0 0 ≡ get_or old 0 0
  pub done : (k : ℕ) → k + 1 < i → get_or row (k + 1) 0 ≡ capped (get_or old (k + 1) 0 + get_or old k 0)
  pub left : (k : ℕ) → i ≤ k → get_or row k 0 ≡ get_or old k 0

capped_twice : (a b m : ℕ) → min (min a m + min b m) m ≡ min (a + b) m
capped_twice a b m = omega arith

next_choose : (n k : ℕ) → choose n k + choose n (suc k) ≡ choose (n + 1) (suc k)
next_choose n k = ap (λ m. choose m (suc k)) (sym (add-one n))

plus : (a b : ℕ) → a + b ≡ b + a
plus a b = omega arith

pub pascal_next : (n : ℕ) (old new : List ℕ) → IsPascal n old → IsNext old new → IsPascal (n + 1) new
pascal_next n old new p next = record { each = each }
  where
    each : (k : ℕ) → k < length new → get_or new k 0 ≡ capped (choose (n + 1) k)
    each zero h = next.first (omega (arith, h, next.long)) ∙ p.each 0 (omega (arith, h, next.long))
    each (suc k) h =
        let here = p.each (suc k) (omega (arith, h, next.long)) in
        let below = p.each k (omega (arith, h, next.long)) in
        ap (λ m. get_or new m 0) (omega arith)
        ∙ (next.each k (omega (arith, h, next.long))
        ∙ (ap₂ (λ a b. capped (a + b)) (ap (λ m. get_or old m 0) (omega arith) ∙ here) below
        ∙ (capped_twice (choose n (suc k)) (choose n k) (2 ^ 128 - 1)
        ∙ ap capped (plus (choose n (suc k)) (choose n k) ∙ next_choose n k))))
