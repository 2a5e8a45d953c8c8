-- Members, choices and signs, for definitions over lists.
use Rattle.std.specs.Prelude.{◌≡◌, ◌⊎◌, Bool, true, false, not, cond, List, [], ◌∷◌, filter, flat_map, map}

-- an element of a list
abbrev pub Member : {X : Type 0} → List X → X → Type 0
Member [] x = ⊥
Member (y ∷ ys) x = (y ≡ x) ⊎ Member ys x

-- every list with one element of each list, the first slowest
abbrev pub choices : {X : Type 0} → List (List X) → List (List X)
choices [] = [] ∷ []
choices (xs ∷ xss) = flat_map (λ x. map (λ rest. x ∷ rest) (choices xss)) xs

-- the list where the test holds, and else nothing
abbrev pub only_if : {X : Type 0} → Bool → List X → List X
only_if b xs = cond b xs []

-- a truth value, or its negation where the sign is false
abbrev pub signed : Bool → Bool → Bool
signed true b = b
signed false b = not b

-- each element once, where it stands first, by a test whether two are one
abbrev pub each_once : {X : Type 0} → (X → X → Bool) → List X → List X
each_once same [] = []
each_once same (x ∷ xs) = x ∷ filter (λ y. not (same x y)) (each_once same xs)
