-- Elements of lists by their places, and the fronts of lists.
use Rattle.std.proofs.Common.{◌≡◌, ◌⊎◌, ◌<◌, ◌≤◌, ◌+◌, ℕ, zero, suc, List, [], ◌∷◌, ◌++◌, Some, None, length, map, take, drop, get_or, slice_get, inl, inr, refl, sym, ap, ◌∙◌, add-one, drop-cons, arith}
use Rattle.std.specs.List.{range_with_len}
use Rattle.std.proofs.lemmas.List.{take_more}
use Rattle.std.proofs.lemmas.Option.{slice_get_cases, slice_get_within, get_or_from_slice_get}
use Rattle.kp_base.specs.Lists.{Member}

-- ---- which places have an element

-- a number below the length has its element
pub element : {X : Type 0} (xs : List X) (n : ℕ) → n < length xs → (x : X) × (slice_get xs n ≡ Some x)
element xs n lt = elim ((slice_get_cases xs n).1) [
  | inl c ↦ (c.0, c.2)
  | inr c ↦ absurd (let le = c.0 in omega (arith, le, lt))
]

-- and not none
pub none_past : {X : Type 0} (xs : List X) (m : ℕ) → m < length xs → slice_get xs m ≡ None → ⊥
none_past [] m lt h = absurd (omega (arith, lt))
none_past (x ∷ xs) zero lt h = cc
none_past (x ∷ xs) (suc m) lt h = none_past xs m (omega (arith, lt)) h

-- the element at a place is a member
pub item_member : {X : Type 0} (xs : List X) (i : ℕ) (x : X) → i < length xs → x ≡ get_or xs i x → Member xs x
item_member [] i x lt is = absurd (omega (arith, lt))
item_member (y ∷ ys) zero x lt is = inl (sym is)
item_member (y ∷ ys) (suc i) x lt is = inr (item_member ys i x (omega (arith, lt)) is)

-- ---- two lists together

-- a place in the first
pub get_left : {X : Type 0} (xs ys : List X) (n : ℕ) (x : X) → slice_get xs n ≡ Some x → slice_get (xs ++ ys) n ≡ Some x
get_left [] ys n x e = absurd cc
get_left (z ∷ xs) ys zero x e = e
get_left (z ∷ xs) ys (suc n) x e = get_left xs ys n x e

-- a place in the second
pub get_right : {X : Type 0} (xs ys : List X) (n k : ℕ) → k ≡ length xs + n → slice_get (xs ++ ys) k ≡ slice_get ys n
get_right [] ys n k e = let same : k ≡ n = omega (arith, e) in ap (λ m. slice_get ys m) same
get_right (z ∷ xs) ys n zero e = absurd (omega (arith, e))
get_right (z ∷ xs) ys n (suc k) e = get_right xs ys n k (omega (arith, e))

-- ---- the elements that a loop has come to, and those to come

taken_next : {X : Type 0} (xs : List X) (i : ℕ) (x y : X) → x ≡ get_or xs i x → Member (take (suc i) xs) y → Member (take i xs) y ⊎ (x ≡ y)
taken_next [] zero x y is m = absurd m
taken_next [] (suc i) x y is m = absurd m
taken_next (z ∷ zs) zero x y is m = elim m [ inl e ↦ inr (is ∙ e) | inr r ↦ absurd r ]
taken_next (z ∷ zs) (suc i) x y is m = elim m [
  | inl e ↦ inl (inl e)
  | inr r ↦ elim (taken_next zs i x y is r) [ inl h ↦ inl (inr h) | inr h ↦ inr h ]
]

-- what is among the first elements, with one more
pub taken_more : {X : Type 0} (xs : List X) (i : ℕ) (x y : X) → x ≡ get_or xs i x → Member (take (i + 1) xs) y → Member (take i xs) y ⊎ (x ≡ y)
taken_more xs i x y is m = taken_next xs i x y is (rw add-one at m)

-- where as many were taken as there are, all were
pub taken_all : {X : Type 0} (xs : List X) (i : ℕ) (y : X) → length xs ≤ i → Member xs y → Member (take i xs) y
taken_all [] i y le m = absurd m
taken_all (x ∷ xs) zero y le m = absurd (omega (arith, le))
taken_all (x ∷ xs) (suc i) y le m = elim m [ inl e ↦ inl e | inr r ↦ inr (taken_all xs i y (omega (arith, le)) r) ]

-- the first elements with one more are one more of them
pub one_more_taken : {X : Type 0} (xs taken : List X) (i : ℕ) (x : X) → slice_get xs i ≡ Some x → taken ≡ take i xs → taken ++ x ∷ [] ≡ take (i + 1) xs
one_more_taken xs taken i x at is =
    ap (λ l. l ++ x ∷ []) is ∙ (ap (λ y. take i xs ++ y ∷ []) (sym (get_or_from_slice_get xs i x x at)) ∙ sym (take_more xs i x (slice_get_within xs i x at)))

-- what is to come begins with the element at the place
pub next_mapped : {X Y : Type 0} (f : X → Y) (xs : List X) (i : ℕ) (d : X) → i < length xs → map f (drop i xs) ≡ f (get_or xs i d) ∷ map f (drop (i + 1) xs)
next_mapped f xs i d h = rw (add-one, drop-cons xs i d h) refl

-- ---- numbers from one on

-- one number more
pub range_more : (a n : ℕ) → range_with_len a (suc n) ≡ range_with_len a n ++ (a + n) ∷ []
range_more a zero = ap (λ x. x ∷ []) (omega arith)
range_more a (suc n) = ap (λ xs. a ∷ xs) (range_more (a + 1) n ∙ ap (λ x. range_with_len (a + 1) n ++ x ∷ []) (omega arith))

-- one place more
pub places_more : (n : ℕ) → range_with_len 0 (n + 1) ≡ range_with_len 0 n ++ n ∷ []
places_more n = ap (range_with_len 0) (add-one n) ∙ (range_more 0 n ∙ ap (λ x. range_with_len 0 n ++ x ∷ []) (omega arith))
