-- Elements of a list that grows at its end.
use Rattle.std.proofs.Common.{◌≡◌, ◌<◌, ◌+◌, ◌⊎◌, ℕ, zero, suc, get_or, List, [], ◌∷◌, ◌++◌, Some, length, slice_get, arith, refl, ap, ◌∙◌, inl, inr}
use Rattle.std.proofs.lemmas.Option.{slice_get_read}

-- what a read gives
pub read_at : {X : Type 0} (xs : List X) (i : ℕ) (x y : X) → i < length xs → x ≡ get_or xs i x → x ≡ y → slice_get xs i ≡ Some y
read_at xs i x y lt e is = slice_get_read xs (length xs) i x refl lt e ∙ ap Some is

pub slice_last : {X : Type 0} (xs : List X) (x : X) → slice_get (xs ++ x ∷ []) (length xs) ≡ Some x
slice_last [] x = refl
slice_last (z ∷ xs) x = slice_last xs x

pub slice_pushed : {X : Type 0} (xs : List X) (x : X) (i : ℕ) → (i ≡ length xs → ⊥) → slice_get (xs ++ x ∷ []) i ≡ slice_get xs i
slice_pushed [] x zero h = absurd (h refl)
slice_pushed [] x (suc i) h = refl
slice_pushed (z ∷ xs) x zero h = refl
slice_pushed (z ∷ xs) x (suc i) h = slice_pushed xs x i (λ e. h (omega (arith, e)))

pub slice_parts : {X : Type 0} (xs : List X) (x : X) (i : ℕ) (y : X) → slice_get (xs ++ x ∷ []) i ≡ Some y → (slice_get xs i ≡ Some y) ⊎ ((i ≡ length xs) × (y ≡ x))
slice_parts [] x zero y h = inr (refl, cc)
slice_parts [] x (suc i) y h = inl h
slice_parts (z ∷ xs) x zero y h = inl h
slice_parts (z ∷ xs) x (suc i) y h = elim (slice_parts xs x i y h) [
  | inl e ↦ inl e
  | inr e ↦ inr (omega (arith, e.0), e.1)
]

pub slice_right : {X : Type 0} (xs ys : List X) (j : ℕ) → slice_get (xs ++ ys) (length xs + j) ≡ slice_get ys j
slice_right [] ys j = ap (slice_get ys) (omega arith)
slice_right (z ∷ xs) ys j = let e : length (z ∷ xs) + j ≡ suc (length xs + j) = omega arith in ap (slice_get (z ∷ (xs ++ ys))) e ∙ slice_right xs ys j

pub slice_split : {X : Type 0} (xs ys : List X) (i : ℕ) (x : X) → slice_get (xs ++ ys) i ≡ Some x → (slice_get xs i ≡ Some x) ⊎ ((j : ℕ) × (i ≡ length xs + j) × (slice_get ys j ≡ Some x))
slice_split [] ys i x h = inr (i, omega arith, h)
slice_split (z ∷ xs) ys zero x h = inl h
slice_split (z ∷ xs) ys (suc i) x h = elim (slice_split xs ys i x h) [
  | inl e ↦ inl e
  | inr e ↦ let n = e.1 in inr (e.0, omega (arith, n), e.2)
]
