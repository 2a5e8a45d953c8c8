-- Rows of bits, one for each number below n.
use Rattle.std.proofs.Common.{◌≡◌, ◌<◌, ◌||◌, ℕ, Bool, false, List, [], length, get_or, set, replicate, ap, ◌∙◌, arith, inl, inr, length-set, get_or-set_same, get_or-set_other}
use Rattle.std.proofs.lemmas.Bool.{cases_eq}
use Rattle.std.proofs.lemmas.List.{length-map, get_or-map}
use Rattle.std.proofs.lemmas.Slice.Zip.{length-zip, get_or-zip}
use Rattle.std.specs.List.{zip}
use Rattle.kp_bits.specs.Rows.{either}
use Rattle.kp_relevance.specs.Tabled.{IsSquare}

-- rows of zeros, as far as there are some
pub record AreClear (n m : ℕ) (rows : List (List Bool)) : Type 0 where
  pub many : length rows ≡ m
  pub bits : (j : ℕ) → j < m → get_or rows j [] ≡ replicate n false

-- ---- one row changed

pub length-either : (xs ys : List Bool) → length xs ≡ length ys → length (either xs ys) ≡ length xs
length-either xs ys e = length-map (zip xs ys) (λ (p : Bool × Bool). p.0 || p.1) ∙ omega (arith, length-zip xs ys, e)

pub either_at : (xs ys : List Bool) (i : ℕ) → i < length xs → i < length ys → get_or (either xs ys) i false ≡ (get_or xs i false || get_or ys i false)
either_at xs ys i lt lt2 =
    get_or-map (λ (p : Bool × Bool). p.0 || p.1) (zip xs ys) i (false, false) false (omega (arith, length-zip xs ys, lt, lt2))
    ∙ ap (λ (p : Bool × Bool). p.0 || p.1) (get_or-zip xs ys i (false, false) lt lt2)

-- a row of a square written over
pub IsSquare-set : (n : ℕ) (rows : List (List Bool)) (j : ℕ) (row : List Bool) → IsSquare n rows → j < n → length row ≡ n → IsSquare n (set rows j row)
IsSquare-set n rows j row sq lt e = record {
  many = length-set rows j row ∙ sq.many;
  bits = λ k h. elim (cases_eq k j) [
    | inl same ↦ ap length (ap (λ m. get_or (set rows j row) m []) same ∙ get_or-set_same rows j row [] (omega (arith, lt, sq.many))) ∙ e
    | inr ne ↦ ap length (get_or-set_other rows j k row [] ne) ∙ sq.bits k h
  ];
}
