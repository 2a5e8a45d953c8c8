-- The elements of a list up to a place.
use Rattle.std.proofs.Common.{◌≡◌, ◌+◌, ℕ, zero, suc, List, [], ◌∷◌, ◌++◌, Some, take, slice_get, ap, subst, arith}

take_suc : {X : Type 0} (xs : List X) (n : ℕ) (x : X) → slice_get xs n ≡ Some x → take (suc n) xs ≡ take n xs ++ x ∷ []
take_suc [] n x h = cc
take_suc {X} (y ∷ ys) zero x h = same h
  where
    same : Some y ≡ Some x → y ∷ [] ≡ x ∷ []
    same e = cc
take_suc (y ∷ ys) (suc n) x h = ap (λ zs. y ∷ zs) (take_suc ys n x h)

-- one element more
pub take_next : {X : Type 0} (xs : List X) (n : ℕ) (x : X) → slice_get xs n ≡ Some x → take (n + 1) xs ≡ take n xs ++ x ∷ []
take_next xs n x h = let e : suc n ≡ n + 1 = omega arith in subst (λ m. take m xs ≡ take n xs ++ x ∷ []) e (take_suc xs n x h)
