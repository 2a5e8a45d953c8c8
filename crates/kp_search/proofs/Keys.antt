-- Keys in a heap.
use Rattle.std.proofs.Common.{◌≡◌, ◌<◌, ◌≤◌, ◌+◌, ◌⊎◌, ℕ, Bool, true, false, cond, if◌then◌else◌, List, [], ◌∷◌, nat_eq, nat_cmp, is_lt, IsPermutation, arith, refl, sym, ap, subst, ◌∙◌}
use Rattle.std.specs.List.{AllByRecursion}
use Rattle.std.specs.Ordering.{ordering_then}
use Rattle.std.specs.declared.cmp.Reverse.{Reverse}
use Rattle.std.proofs.lemmas.Bool.{and_parts, eqb-true}
use Rattle.std.proofs.lemmas.Bool.Decides.{nat_tests}
use Rattle.std.proofs.lemmas.List.Sorted.{IsPermutation-map, sum_by_pushed, sum_by_popped, length_permutation}
use Rattle.std.proofs.lemmas.List.Sums.{sum_by-cons}
use Rattle.kp_search.specs.declared.key.Key.{Key}
use Rattle.kp_search.specs.Queue.{same_key, times, IsBefore, PopsFirst}
use Rattle.kp_search.specs.Heaped.{later, keys_of}

pub times_pushed : (x : Reverse Key) (xs ys : List (Reverse Key)) → IsPermutation (x ∷ xs) ys → (y : Key) → times (keys_of ys) y ≡ (if same_key y x.0 then 1 else 0) + times (keys_of xs) y
times_pushed x xs ys p y = sum_by_pushed (λ z. cond (same_key y z) 1 0) x.0 (keys_of xs) (keys_of ys) (IsPermutation-map (λ r. r.0) (x ∷ xs) ys p)

pub times_popped : (x : Reverse Key) (xs ys : List (Reverse Key)) → IsPermutation xs (x ∷ ys) → (y : Key) → times (keys_of xs) y ≡ (if same_key y x.0 then 1 else 0) + times (keys_of ys) y
times_popped x xs ys p y =
    let e = sum_by_popped (λ z. cond (same_key y z) 1 0) x.0 (keys_of xs) (keys_of ys) (IsPermutation-map (λ r. r.0) xs (x ∷ ys) p) in
    omega (arith, e)

before_of : (a b c d : ℕ) → is_lt (ordering_then (nat_cmp b a) (nat_cmp d c)) ≡ false → (a < b) ⊎ ((a ≡ b) × (c ≤ d))
before_of a b c d h = grind (arith, nat_tests)

pub key_same : (x y : Key) → same_key x y ≡ true → x ≡ y
key_same x y h =
    let parts = and_parts (nat_eq x.estimate y.estimate) (nat_eq x.number y.number) h in
    let e = eqb-true x.estimate y.estimate parts.0 in
    let n = eqb-true x.number y.number parts.1 in
    let mk : ℕ → ℕ → Key = λ a b. record { estimate = a; number = b } in
    ap (λ a. mk a x.number) e ∙ ap (λ b. mk y.estimate b) n

pub none_before : (x : Reverse Key) (rs : List (Reverse Key)) → AllByRecursion (λ y. is_lt (later x y) ≡ false) rs → (y : Key) → 0 < times (keys_of rs) y → IsBefore x.0 y
none_before x [] a y h = absurd (omega (arith, h))
none_before x (r ∷ rs) a y h = pick (none_before x rs a.1 y) (same_key y r.0) refl (subst (λ n. 0 < n) (sum_by-cons (λ z. cond (same_key y z) 1 0) r.0 (keys_of rs)) h)
  where
    pick : (0 < times (keys_of rs) y → IsBefore x.0 y) → (b : Bool) → same_key y r.0 ≡ b → 0 < cond (same_key y r.0) 1 0 + times (keys_of rs) y → IsBefore x.0 y
    pick rest true is g = subst (IsBefore x.0) (sym (key_same y r.0 is)) (before_of x.0.estimate r.0.estimate x.0.number r.0.number a.0)
    pick rest false is g = rest (let e = ap (λ b. cond b 1 0 + times (keys_of rs) y) is in omega (arith, e, g))

pub pops_first : (x : Reverse Key) (xs ys : List (Reverse Key)) → IsPermutation xs (x ∷ ys) → AllByRecursion (λ y. is_lt (later x y) ≡ false) ys → PopsFirst (keys_of xs) x.0 (keys_of ys)
pops_first x xs ys p a = record {
  leaves = times_popped x xs ys p;
  first = none_before x ys a;
  len = let e = length_permutation (keys_of xs) (keys_of (x ∷ ys)) (IsPermutation-map (λ r. r.0) xs (x ∷ ys) p) in omega (arith, e);
}
