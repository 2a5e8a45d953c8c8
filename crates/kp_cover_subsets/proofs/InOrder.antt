-- Sets of places stand in order.
use Rattle.std.proofs.Common.{◌≡◌, ◌<◌, ◌≤◌, ◌+◌, ◌++◌, ℕ, zero, suc, List, [], ◌∷◌, map, refl, ap, subst, ◌∙◌, inl, inr, arith}
use Rattle.std.proofs.lemmas.Bool.Decides.{nat_tests}
use Rattle.std.specs.List.{range_with_len}
use Rattle.std.specs.Ordering.{nat_cmp, ordering_then}
use Rattle.std.specs.declared.cmp.Ordering.TheVariants.{Less, Equal}
use Rattle.std.specs.Cmp.Lexicographic.{slice_cmp}
use Rattle.kp_base.specs.Lists.{Member}
use Rattle.kp_base.proofs.Lists.{map_member, member_right, append_member}
use Rattle.kp_cover_subsets.specs.Subsets.{subsets}
use Rattle.kp_cover_subsets.specs.Laws.{SetsAreInOrder}

abbrev IsLess : List ℕ → List ℕ → Type 0
IsLess s t = slice_cmp nat_cmp s t ≡ Less

-- each set is less than those after it
abbrev Rise : List (List ℕ) → Type 0
Rise [] = Unit {0}
Rise (s ∷ sets) = ((t : List ℕ) → Member sets t → IsLess s t) × Rise sets

itself : (n : ℕ) → nat_cmp n n ≡ Equal
itself n = grind (arith, nat_tests)

below : (n m : ℕ) → n < m → nat_cmp n m ≡ Less
below n m lt = grind (arith, nat_tests, lt)

-- sets with one first place
same-first : (i : ℕ) (sets : List (List ℕ)) → Rise sets → Rise (map (λ s. i ∷ s) sets)
same-first i [] r = tt
same-first i (s ∷ sets) r = (
  λ t m. let q = map_member (λ z. i ∷ z) sets t m in
      subst (λ (z : List ℕ). IsLess (i ∷ s) z) q.2 (ap (λ o. ordering_then o (slice_cmp nat_cmp s q.0)) (itself i) ∙ r.0 q.0 q.1),
  same-first i sets r.1,
)

both-parts : (xs ys : List (List ℕ)) → Rise xs → Rise ys → ((s t : List ℕ) → Member xs s → Member ys t → IsLess s t) → Rise (xs ++ ys)
both-parts [] ys a b f = b
both-parts (x ∷ xs) ys a b f = (
  λ t m. elim (append_member xs ys t m) [ inl h ↦ a.0 t h | inr h ↦ f x t (inl refl) h ],
  both-parts xs ys a.1 b (λ s t m k. f s t (inr m) k),
)

-- the first place of a set is no earlier than the places begin
first-from : (k i m : ℕ) (t : List ℕ) → Member (subsets (suc k) (range_with_len i m)) t → (p : ℕ) × (rest : List ℕ) × (i ≤ p) × (p ∷ rest ≡ t)
first-from k i zero t h = absurd h
first-from k i (suc m) t h = elim (append_member (map (λ s. i ∷ s) (subsets k (range_with_len (i + 1) m))) (subsets (suc k) (range_with_len (i + 1) m)) t h) [
  | inl a ↦ let q = map_member (λ s. i ∷ s) (subsets k (range_with_len (i + 1) m)) t a in (i, q.0, omega arith, q.2)
  | inr b ↦ let q = first-from k (i + 1) m t b in (q.0, q.1, omega (arith, q.2), q.3)
]

rises : (k i m : ℕ) → Rise (subsets k (range_with_len i m))
rises zero i m = (λ t h. absurd h, tt)
rises (suc k) i zero = tt
rises (suc k) i (suc m) = both-parts (map (λ s. i ∷ s) (subsets k (range_with_len (i + 1) m))) (subsets (suc k) (range_with_len (i + 1) m))
    (same-first i (subsets k (range_with_len (i + 1) m)) (rises k (i + 1) m)) (rises (suc k) (i + 1) m)
    (λ s t a b.
    let q = map_member (λ z. i ∷ z) (subsets k (range_with_len (i + 1) m)) s a in
    let r = first-from k (i + 1) m t b in
    subst (λ (z : List ℕ). IsLess z t) q.2 (subst (λ (z : List ℕ). IsLess (i ∷ q.0) z) r.3 (ap (λ o. ordering_then o (slice_cmp nat_cmp q.0 r.1)) (below i r.0 (omega (arith, r.2))))))

-- of two sets the earlier is less
of-two : (front between rest : List (List ℕ)) (s t : List ℕ) → Rise (front ++ s ∷ between ++ t ∷ rest) → IsLess s t
of-two [] between rest s t r = r.0 t (member_right between (t ∷ rest) t (inl refl))
of-two (x ∷ front) between rest s t r = of-two front between rest s t r.1

pub sets_are_in_order : SetsAreInOrder
sets_are_in_order n k front between rest s t is = of-two front between rest s t (subst Rise is (rises k 0 n))
