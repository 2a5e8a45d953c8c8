-- Two lists of the prime implicates are equally long.
use Rattle.std.proofs.Common.{◌≡◌, ◌≤◌, ◌⊎◌, List, [], ◌∷◌, refl, sym, ◌∙◌, subst, inl, inr, length, suc, arith}
use Rattle.kp_base.specs.Lists.{Member}
use Rattle.kp_base.specs.Implicates.{IsOnce, IsLimitExact}

-- a list without one of its elements
take_out : {X : Type 0} (ys : List X) (x : X) → Member ys x → (zs : List X) × (length ys ≡ suc (length zs)) × ((z : X) → Member ys z → (x ≡ z) ⊎ Member zs z) × ((z : X) → Member zs z → Member ys z)
take_out [] x m = absurd m
take_out (y ∷ ys) x m = elim m [
  | inl e ↦ (ys, omega arith, λ z n. elim n [ inl f ↦ inl (sym e ∙ f) | inr r ↦ inr r ], λ z n. inr n)
  | inr r ↦ let t = take_out ys x r in (y ∷ t.0, let h = t.1 in omega arith, λ z n. elim n [ inl f ↦ inr (inl f) | inr s ↦ elim (t.2 z s) [ inl g ↦ inl g | inr h ↦ inr (inr h) ] ], λ z n. elim n [ inl f ↦ inl f | inr s ↦ inr (t.3 z s) ])
]

-- a list without repeats is no longer than one in which each of its elements has an element of its own
pub each_length : {X Y : Type 0} (R : Y → X → Type 0) (xs : List X) (ys : List Y) → IsOnce xs → ((x : X) → Member xs x → (y : Y) × Member ys y × R y x) → ((y : Y) (a b : X) → Member ys y → Member xs a → Member xs b → R y a → R y b → a ≡ b) → length xs ≤ length ys
each_length R [] ys once f own = omega arith
each_length R (x ∷ xs) ys once f own =
    let y = f x (inl refl) in
    let t = take_out ys y.0 y.1 in
    let le = each_length R xs t.0 once.1 (λ a m. let z = f a (inr m) in elim (t.2 z.0 z.1) [
      | inl e ↦ absurd (once.0 (subst (Member xs) (own y.0 a x y.1 (inr m) (inl refl) (subst (λ w. R w a) (sym e) z.2) y.2) m))
      | inr r ↦ (z.0, r, z.2)
    ]) (λ z a b n m k. own z a b (t.3 z n) (inr m) (inr k)) in
    let h = t.1 in
    omega arith

-- a list without repeats is no longer than one that has its elements
pub once_length : {X : Type 0} (xs ys : List X) → IsOnce xs → ((x : X) → Member xs x → Member ys x) → length xs ≤ length ys
once_length xs ys once f = each_length (λ y x. y ≡ x) xs ys once (λ x m. (x, f x m, refl)) (λ y a b _ _ _ e g. sym e ∙ g)

pub not_more_and_at_most : IsLimitExact
not_more_and_at_most i limit over small =
    let le = once_length over.listed small.listed over.primes.once (λ c m. (small.primes.exact c).1 ((over.primes.exact c).0 m)) in
    let a = over.more in
    let b = small.at_most in
    omega arith
