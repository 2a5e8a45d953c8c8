-- Lists in which no element stands twice.
use Rattle.std.proofs.Common.{◌≡◌, ◌<◌, ◌≤◌, ◌+◌, ℕ, zero, suc, Bool, true, false, cond, List, [], ◌∷◌, ◌++◌, filter, map, arith, refl, sym, subst, ◌∙◌, inl, inr}
use Rattle.std.proofs.lemmas.Bool.{false≢true}
use Rattle.std.proofs.lemmas.Map.Keys.{IsDistinct-IsPermutation}
use Rattle.std.specs.List.{AllByRecursion, IsDistinct, range_with_len}
use Rattle.std.specs.List.Sorted.{IsPermutation}
use Rattle.std.specs.Ordering.{eq_by_cmp}
use Rattle.kp_base.specs.declared.lit.Lit.{Lit}
use Rattle.kp_base.specs.Lists.{Member}
use Rattle.kp_base.specs.LitSet.{lits_cmp}
use Rattle.kp_base.specs.Implicates.{IsOnce}
use Rattle.kp_base.proofs.Lists.{bool_same, append_member, filter_member, map_member}
use Rattle.kp_base.proofs.Ascending.{equal_iff}

pub once_filter : {X : Type 0} (p : X → Bool) (xs : List X) → IsOnce xs → IsOnce (filter p xs)
once_filter p [] h = tt
once_filter {X} p (x ∷ xs) h = pick (once_filter p xs h.1) (p x)
  where
    pick : IsOnce (filter p xs) → (b : Bool) → IsOnce (cond b (x ∷ filter p xs) (filter p xs))
    pick rest true = (λ m. h.0 (filter_member p xs x m).0, rest)
    pick rest false = rest

pub once_append : {X : Type 0} (xs ys : List X) → IsOnce xs → IsOnce ys → ((x : X) → Member xs x → Member ys x → ⊥) → IsOnce (xs ++ ys)
once_append [] ys h g apart = g
once_append (x ∷ xs) ys h g apart = (
  λ m. elim (append_member xs ys x m) [ inl e ↦ h.0 e | inr e ↦ apart x (inl refl) e ],
  once_append xs ys h.1 g (λ z m. apart z (inr m)),
)

pub once_map : {X Y : Type 0} (f : X → Y) → ((x z : X) → f x ≡ f z → x ≡ z) → (xs : List X) → IsOnce xs → IsOnce (map f xs)
once_map f same [] h = tt
once_map f same (x ∷ xs) h = (
  λ m. let r = map_member f xs (f x) m in h.0 (subst (Member xs) (same r.0 x r.2) r.1),
  once_map f same xs h.1,
)

-- ---- ranges

pub range_bounds : (a n k : ℕ) → Member (range_with_len a n) k → (a ≤ k) × (k < a + n)
range_bounds a zero k m = absurd m
range_bounds a (suc n) k m = elim m [
  | inl e ↦ (omega (arith, e), omega (arith, e))
  | inr r ↦ let b = range_bounds (a + 1) n k r in let lo = b.0 in let hi = b.1 in (omega (arith, lo), omega (arith, hi))
]

pub once_range : (a n : ℕ) → IsOnce (range_with_len a n)
once_range a zero = tt
once_range a (suc n) = (λ m. let lo = (range_bounds (a + 1) n a m).0 in absurd (omega (arith, lo)), once_range (a + 1) n)

-- ---- another order

abbrev same_literals : List Lit → List Lit → Bool
same_literals = eq_by_cmp lits_cmp

same_literals_flip : (c d : List Lit) → same_literals c d ≡ same_literals d c
same_literals_flip c d = bool_same (same_literals c d) (same_literals d c) (λ h. (equal_iff d c).1 (sym ((equal_iff c d).0 h))) (λ h. (equal_iff c d).1 (sym ((equal_iff d c).0 h)))

differ_all : (c : List Lit) (cs : List (List Lit)) → (Member cs c → ⊥) → AllByRecursion (λ d. same_literals c d ≡ false) cs
differ_all c [] h = tt
differ_all c (d ∷ cs) h = (pick (same_literals c d) refl, differ_all c cs (λ m. h (inr m)))
  where
    pick : (b : Bool) → same_literals c d ≡ b → same_literals c d ≡ false
    pick true is = absurd (h (inl (sym ((equal_iff c d).0 is))))
    pick false is = is

all_differ : (c : List Lit) (cs : List (List Lit)) → AllByRecursion (λ d. same_literals c d ≡ false) cs → Member cs c → ⊥
all_differ c [] h m = m
all_differ c (d ∷ cs) h m = elim m [
  | inl e ↦ false≢true (sym h.0 ∙ (equal_iff c d).1 (sym e))
  | inr r ↦ all_differ c cs h.1 r
]

once_distinct : (cs : List (List Lit)) → IsOnce cs → IsDistinct same_literals cs
unfolding IsDistinct
once_distinct [] h = tt
once_distinct (c ∷ cs) h = (differ_all c cs h.0, once_distinct cs h.1)

distinct_once : (cs : List (List Lit)) → IsDistinct same_literals cs → IsOnce cs
unfolding IsDistinct
distinct_once [] h = tt
distinct_once (c ∷ cs) h = (all_differ c cs h.0, distinct_once cs h.1)

pub permuted_once : (cs ds : List (List Lit)) → IsPermutation cs ds → IsOnce cs → IsOnce ds
permuted_once cs ds perm h = distinct_once ds (IsDistinct-IsPermutation same_literals same_literals_flip cs ds perm (once_distinct cs h))
