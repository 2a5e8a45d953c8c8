-- Targets one after the other.
use Rattle.std.proofs.Common.{◌≡◌, ◌<◌, ◌+◌, ◌++◌, ℕ, zero, suc, List, [], ◌∷◌, take, drop, length, get_or, refl, sym, ap, subst, ◌∙◌, arith}
use Rattle.kp_base.specs.declared.lit.Lit.{Lit}
use Rattle.kp_base.specs.declared.ground.Ground.{Ground}
use Rattle.kp_base.specs.declared.ground.Initial.{Initial}
use Rattle.kp_width.specs.declared.report.WidthRow.{WidthRow}
use Rattle.kp_width.specs.Rows.{IsRowOf, AreRows, IsTargetReached}

next_is : (ts : List Lit) (k : ℕ) (t : Lit) → k < length ts → t ≡ get_or ts k t → take (k + 1) ts ≡ take k ts ++ t ∷ []
next_is [] k t lt is = absurd (omega (arith, lt))
next_is (u ∷ ts) zero t lt is = ap (λ z. z ∷ []) (sym is)
next_is (u ∷ ts) (suc k) t lt is = let e : suc k + 1 ≡ suc (k + 1) = omega arith in ap (λ m. take m (u ∷ ts)) e ∙ ap (λ z. u ∷ z) (next_is ts k t (omega (arith, lt)) is)

split_at : (ts : List Lit) (k : ℕ) (t : Lit) → k < length ts → t ≡ get_or ts k t → ts ≡ take k ts ++ t ∷ drop (k + 1) ts
split_at [] k t lt is = absurd (omega (arith, lt))
split_at (u ∷ ts) zero t lt is = ap (λ z. z ∷ ts) (sym is)
split_at (u ∷ ts) (suc k) t lt is = let e : suc (k + 1) ≡ suc k + 1 = omega arith in ap (λ zs. u ∷ zs) (split_at ts k t (omega (arith, lt)) is) ∙ ap (λ m. (u ∷ take k ts) ++ t ∷ drop m (u ∷ ts)) e

pub at_itself : (ts : List Lit) (k : ℕ) (d : Lit) → k < length ts → get_or ts k d ≡ get_or ts k (get_or ts k d)
at_itself [] k d lt = absurd (omega (arith, lt))
at_itself (u ∷ ts) zero d lt = refl
at_itself (u ∷ ts) (suc k) d lt = at_itself ts k d (omega (arith, lt))

module _ (limit bound : ℕ) (g : Ground) (i : Initial) where
  one_more : (ts : List Lit) (rows : List WidthRow) (t : Lit) (row : WidthRow) → AreRows limit bound g i ts rows → IsRowOf limit bound g i t row → AreRows limit bound g i (ts ++ t ∷ []) (rows ++ row ∷ [])
  one_more _ _ t row AreRows.done h = AreRows.more t [] row [] h AreRows.done
  one_more _ _ t row (AreRows.more u ts first rows here others) h = AreRows.more u (ts ++ t ∷ []) first (rows ++ row ∷ []) here (one_more ts rows t row others h)

  -- the row of one target more
  pub next_target : (ts : List Lit) (k : ℕ) (t : Lit) (rows new : List WidthRow) (row : WidthRow) → k < length ts → t ≡ get_or ts k t → AreRows limit bound g i (take k ts) rows → IsRowOf limit bound g i t row → new ≡ rows ++ row ∷ [] → AreRows limit bound g i (take (k + 1) ts) new
  next_target ts k t rows new row lt is before h added =
      subst (λ (us : List Lit). AreRows limit bound g i us new) (sym (next_is ts k t lt is))
      (subst (AreRows limit bound g i (take k ts ++ t ∷ [])) (sym added) (one_more (take k ts) rows t row before h))

  -- a target without a row is reached
  pub reached : (ts : List Lit) (k : ℕ) (t : Lit) (rows : List WidthRow) → k < length ts → t ≡ get_or ts k t → AreRows limit bound g i (take k ts) rows → IsTargetReached limit bound g i ts t
  reached ts k t rows lt is before = record { earlier = take k ts; later = drop (k + 1) ts; among = split_at ts k t lt is; rows = rows; are_rows = before }
