-- Sums of costs.
use Rattle.std.proofs.Common.{◌≡◌, ◌<◌, ◌≤◌, ◌+◌, ◌⊎◌, ℕ, Bool, true, false, ◌&&◌, if◌then◌else◌, min, nat_le, List, [], ◌∷◌, arith, refl, sym, ap, ◌∙◌, inl, inr}
use Rattle.std.proofs.lemmas.Bool.{leb-true, leb-false}
use Rattle.kp_guide.specs.CostTables.{value, joined, total}

-- either both are costs, or one is none and so is the sum
pub joined_is : (a b : ℕ) → ((a ≤ 1000000000) × (b ≤ 1000000000) × (joined a b ≡ min (a + b) 1000000000)) ⊎ (((1000000000 < a) ⊎ (1000000000 < b)) × (joined a b ≡ 1000000001))
joined_is a b = pick (nat_le a 1000000000) (nat_le b 1000000000) refl refl
  where
    pick : (p q : Bool) → nat_le a 1000000000 ≡ p → nat_le b 1000000000 ≡ q → ((a ≤ 1000000000) × (b ≤ 1000000000) × (joined a b ≡ min (a + b) 1000000000)) ⊎ (((1000000000 < a) ⊎ (1000000000 < b)) × (joined a b ≡ 1000000001))
    pick true true e f = inl (leb-true a 1000000000 e, leb-true b 1000000000 f, ap (λ t. if t && nat_le b 1000000000 then min (a + b) 1000000000 else 1000000001) e ∙ ap (λ t. if t then min (a + b) 1000000000 else 1000000001) f)
    pick true false e f = inr (inr (leb-false b 1000000000 f), ap (λ t. if t && nat_le b 1000000000 then min (a + b) 1000000000 else 1000000001) e ∙ ap (λ t. if t then min (a + b) 1000000000 else 1000000001) f)
    pick false q e f = inr (inl (leb-false a 1000000000 e), ap (λ t. if t && nat_le b 1000000000 then min (a + b) 1000000000 else 1000000001) e)

pub joined_low : (a b : ℕ) → joined a b ≤ 1000000001
joined_low a b = elim (joined_is a b) [
  | inl h ↦ let e = h.2 in omega (arith, e)
  | inr h ↦ let e = h.1 in omega (arith, e)
]

pub joined_zero : (b : ℕ) → b ≤ 1000000001 → joined 0 b ≡ b
joined_zero b low = elim (joined_is 0 b) [
  | inl h ↦ let e = h.2 in let f = h.1 in omega (arith, e, f)
  | inr h ↦ let e = h.1 in elim h.0 [
    | inl f ↦ absurd (omega (arith, f))
    | inr f ↦ omega (arith, e, f, low)
  ]
]

pub zero_joined : (a : ℕ) → a ≤ 1000000001 → joined a 0 ≡ a
zero_joined a low = elim (joined_is a 0) [
  | inl h ↦ let e = h.2 in let f = h.0 in omega (arith, e, f)
  | inr h ↦ let e = h.1 in elim h.0 [
    | inl f ↦ omega (arith, e, f, low)
    | inr f ↦ absurd (omega (arith, f))
  ]
]

both : (a b : ℕ) → a ≤ 1000000000 → b ≤ 1000000000 → joined a b ≡ min (a + b) 1000000000
both a b x y = elim (joined_is a b) [
  | inl h ↦ h.2
  | inr h ↦ elim h.0 [
    | inl f ↦ absurd (omega (arith, f, x))
    | inr f ↦ absurd (omega (arith, f, y))
  ]
]

pub none_left : (a b : ℕ) → 1000000000 < a → joined a b ≡ 1000000001
none_left a b x = elim (joined_is a b) [
  | inl h ↦ let f = h.0 in absurd (omega (arith, f, x))
  | inr h ↦ h.1
]

none_right : (a b : ℕ) → 1000000000 < b → joined a b ≡ 1000000001
none_right a b x = elim (joined_is a b) [
  | inl h ↦ let f = h.1 in absurd (omega (arith, f, x))
  | inr h ↦ h.1
]

pub joined_assoc : (a b c : ℕ) → joined (joined a b) c ≡ joined a (joined b c)
joined_assoc a b c = elim (joined_is a b) [
  | inl h ↦
      let x = h.0 in let y = h.1 in let e = h.2 in
      elim (joined_is b c) [
        | inl g ↦
            let z = g.1 in let f = g.2 in
            let l = both (joined a b) c (omega (arith, e)) z in
            let r = both a (joined b c) x (omega (arith, f)) in
            omega (arith, e, f, l, r, x, y, z)
        | inr g ↦
            let f = g.1 in
            let w : 1000000000 < c = elim g.0 [ inl v ↦ absurd (omega (arith, v, y)) | inr v ↦ v ] in
            let l = none_right (joined a b) c w in
            let r = none_right a (joined b c) (omega (arith, f)) in
            l ∙ sym r
      ]
  | inr h ↦
      let e = h.1 in
      let l = none_left (joined a b) c (omega (arith, e)) in
      elim h.0 [
        | inl v ↦ l ∙ sym (none_left a (joined b c) v)
        | inr v ↦ let f = none_left b c v in l ∙ sym (none_right a (joined b c) (omega (arith, f)))
      ]
]

pub total_low : (costs fs : List ℕ) → total costs fs ≤ 1000000001
total_low costs [] = omega arith
total_low costs (f ∷ fs) = joined_low (value costs f) (total costs fs)
