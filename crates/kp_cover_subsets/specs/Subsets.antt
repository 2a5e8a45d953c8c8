-- All sets of one size from a list, in order; how many there are, and the first that passes a test.
use Rattle.std.specs.Prelude.{◌+◌, ◌-◌, ◌^◌, ◌++◌, ℕ, zero, suc, Bool, List, [], ◌∷◌, Option, Some, None, map, min, if◌then◌else◌}
use Rattle.std.specs.List.{range_with_len}

-- all lists of k elements of the list, each in its order: by their places, the first place slowest
abbrev pub subsets : {X : Type 0} → ℕ → List X → List (List X)
subsets zero xs = [] ∷ []
subsets (suc k) [] = []
subsets (suc k) (x ∷ xs) = map (λ s. x ∷ s) (subsets k xs) ++ subsets (suc k) xs

-- the sets of k of the places below n
abbrev pub place_sets : ℕ → ℕ → List (List ℕ)
place_sets n k = subsets k (range_with_len 0 n)

-- how many sets of k elements n elements have
abbrev pub choose : ℕ → ℕ → ℕ
choose n zero = 1
choose zero (suc k) = 0
choose (suc n) (suc k) = choose n k + choose n (suc k)

-- the number, or 2^128 - 1 if that is less
abbrev pub capped : ℕ → ℕ
capped x = min x (2 ^ 128 - 1)

-- the first element that passes a test
abbrev pub first_that : {X : Type 0} → (X → Bool) → List X → Option X
first_that p [] = None
first_that p (x ∷ xs) = if p x then Some x else first_that p xs
