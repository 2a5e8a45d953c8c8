-- One case of a value and not another.
use Rattle.std.proofs.Common.{◌≡◌, ◌≢◌, ◌⊎◌, ⊎_elim, ◌<◌, ◌≤◌, ℕ, List, [], ◌∷◌, Option, Some, None, map, inl, inr, refl, arith}
use Rattle.std.proofs.lemmas.Bool.{cases_lt}

-- some, and not none
pub some_none : {X : Type 0} {o : Option X} {x : X} → o ≡ Some x → o ≡ None → ⊥
some_none e k = cc

-- lists are equal where they are behind Some
pub some_alike : {X : Type 0} (xs ys : List X) → map Some xs ≡ map Some ys → xs ≡ ys
some_alike [] [] e = refl
some_alike [] (y ∷ ys) e = absurd cc
some_alike (x ∷ xs) [] e = absurd cc
some_alike (x ∷ xs) (y ∷ ys) e = let first : x ≡ y = cc in let rest : map Some xs ≡ map Some ys = cc in cc (first, some_alike xs ys rest)

-- two different numbers in their order
pub orders : (p q : ℕ) → p ≢ q → (p < q) ⊎ (q < p)
orders p q ne = ⊎_elim (λ (l : p < q). inl l) (λ (ge : q ≤ p). inr (omega (arith, ge, ne))) (cases_lt p q)
