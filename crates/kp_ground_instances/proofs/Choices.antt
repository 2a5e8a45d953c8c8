-- The lists of choices by number: how many there are, and which is where.
use Rattle.std.proofs.Common.{◌≡◌, ℕ, zero, suc, ◌+◌, ◌*◌, ◌/◌, ◌%◌, List, [], ◌∷◌, ◌++◌, length, map, slice_get, Some, option_map, refl, sym, ap, ◌∙◌, arith, append-nil, length-append}
use Rattle.std.specs.List.{flat_map}
use Rattle.std.proofs.lemmas.List.{length-map, map-append}
use Rattle.std.proofs.lemmas.List.Concat.{flat_map-append, flat_map_single}
use Rattle.std.proofs.lemmas.List.Folds.{flat_map-map}
use Rattle.std.proofs.lemmas.Option.{slice_get-map, slice_get_within}
use Rattle.kp_base.specs.Lists.{choices}
use Rattle.kp_base.proofs.Lists.{flat_alike, map_map}
use Rattle.kp_base.proofs.Places.{get_left}

-- ---- one list of choices more, at the end

flat_flat : {X Y Z : Type 0} (g : X → List Y) (f : Y → List Z) (xs : List X) → flat_map f (flat_map g xs) ≡ flat_map (λ x. flat_map f (g x)) xs
flat_flat g f [] = refl
flat_flat g f (x ∷ xs) = flat_map-append f (g x) (flat_map g xs) ∙ ap (λ l. flat_map f (g x) ++ l) (flat_flat g f xs)

pub map_flat : {X Y Z : Type 0} (g : X → List Y) (f : Y → Z) (xs : List X) → map f (flat_map g xs) ≡ flat_map (λ x. map f (g x)) xs
map_flat g f [] = refl
map_flat g f (x ∷ xs) = map-append f (g x) (flat_map g xs) ∙ ap (λ l. map f (g x) ++ l) (map_flat g f xs)

-- the list with each of these at its end
abbrev pub longer : {X : Type 0} → List X → List X → List (List X)
longer xs p = map (λ x. p ++ x ∷ []) xs

pub choices_last : {X : Type 0} (xss : List (List X)) (xs : List X) → choices (xss ++ xs ∷ []) ≡ flat_map (longer xs) (choices xss)
choices_last [] xs = flat_map_single (λ x. x ∷ []) xs ∙ sym (append-nil (map (λ x. x ∷ []) xs))
choices_last {X} (ys ∷ yss) xs =
    ap (λ rests. flat_map (λ y. map (λ rest. y ∷ rest) rests) ys) (choices_last yss xs)
    ∙ (flat_alike (λ y. map (λ rest. y ∷ rest) (flat_map (longer xs) (choices yss))) (λ y. flat_map (longer xs) (map (λ rest. y ∷ rest) (choices yss))) ys (λ y m. first_last y)
    ∙ sym (flat_flat (λ y. map (λ rest. y ∷ rest) (choices yss)) (longer xs) ys))
  where
    first_last : (y : X) → map (λ rest. y ∷ rest) (flat_map (longer xs) (choices yss)) ≡ flat_map (longer xs) (map (λ rest. y ∷ rest) (choices yss))
    first_last y =
        map_flat (longer xs) (λ rest. y ∷ rest) (choices yss)
        ∙ (flat_alike (λ p. map (λ rest. y ∷ rest) (longer xs p)) (λ p. longer xs (y ∷ p)) (choices yss) (λ p m. map_map (λ x. p ++ x ∷ []) (λ rest. y ∷ rest) (λ x. (y ∷ p) ++ x ∷ []) xs (λ x. refl))
        ∙ sym (flat_map-map (longer xs) (λ rest. y ∷ rest) (choices yss)))

-- ---- how many

grid_length : {X : Type 0} (xs : List X) (ps : List (List X)) → length (flat_map (longer xs) ps) ≡ length ps * length xs
grid_length xs [] = omega arith
grid_length xs (p ∷ ps) =
    let e = length-append (longer xs p) (flat_map (longer xs) ps) in
    let f = length-map xs (λ x. p ++ x ∷ []) in
    let g = grid_length xs ps in
    omega arith

pub length_last : {X : Type 0} (xss : List (List X)) (xs : List X) → length (choices (xss ++ xs ∷ [])) ≡ length (choices xss) * length xs
length_last xss xs = ap length (choices_last xss xs) ∙ grid_length xs (choices xss)

-- ---- which is where

behind : {X : Type 0} (xs ys : List X) (n : ℕ) → slice_get (xs ++ ys) (length xs + n) ≡ slice_get ys n
behind [] ys n = let e : 0 + n ≡ n = omega arith in ap (slice_get ys) e
behind (x ∷ xs) ys n = let e : suc (length xs) + n ≡ suc (length xs + n) = omega arith in ap (slice_get (x ∷ (xs ++ ys))) e ∙ behind xs ys n

grid : {X : Type 0} (xs : List X) (ps : List (List X)) (q r : ℕ) (x : X) → slice_get xs r ≡ Some x → slice_get (flat_map (longer xs) ps) (q * length xs + r) ≡ option_map (λ p. p ++ x ∷ []) (slice_get ps q)
grid xs [] q r x h = refl
grid xs (p ∷ ps) zero r x h =
    let e : 0 * length xs + r ≡ r = omega arith in
    ap (slice_get (longer xs p ++ flat_map (longer xs) ps)) e
    ∙ get_left (longer xs p) (flat_map (longer xs) ps) r (p ++ x ∷ []) (slice_get-map (λ y. p ++ y ∷ []) xs r ∙ ap (option_map (λ y. p ++ y ∷ [])) h)
grid xs (p ∷ ps) (suc q) r x h =
    let e = length-map xs (λ y. p ++ y ∷ []) in
    let place : suc q * length xs + r ≡ length (longer xs p) + (q * length xs + r) = omega arith in
    ap (slice_get (longer xs p ++ flat_map (longer xs) ps)) place
    ∙ (behind (longer xs p) (flat_map (longer xs) ps) (q * length xs + r) ∙ grid xs ps q r x h)

-- the last choice is that of the remainder, and the others are those of the quotient
pub last_digit : {X : Type 0} (xss : List (List X)) (xs : List X) (n : ℕ) (x : X) → slice_get xs (n % length xs) ≡ Some x → slice_get (choices (xss ++ xs ∷ [])) n ≡ option_map (λ p. p ++ x ∷ []) (slice_get (choices xss) (n / length xs))
last_digit xss xs n x h =
    let some = slice_get_within xs (n % length xs) x h in
    let n-is : n ≡ (n / length xs) * length xs + n % length xs = omega arith in
    ap (λ ls. slice_get ls n) (choices_last xss xs)
    ∙ (ap (slice_get (flat_map (longer xs) (choices xss))) n-is ∙ grid xs (choices xss) (n / length xs) (n % length xs) x h)

-- there is no list of choices where one has nothing to choose from
pub none_last : {X : Type 0} (xss : List (List X)) → choices (xss ++ [] ∷ []) ≡ []
none_last xss = choices_last xss [] ∙ empty (choices xss)
  where
    empty : {X : Type 0} (ps : List (List X)) → flat_map (longer []) ps ≡ []
    empty [] = refl
    empty (p ∷ ps) = empty ps
