-- Marks, one literal after the other.
use Rattle.std.proofs.Common.{◌≡◌, ◌∙◌, ◌∷◌, ◌+◌, ◌<◌, ◌||◌, ℕ, Bool, true, false, List, length, refl, sym, ap, drop, get_or, add-one, drop-cons}
use Rattle.std.proofs.lemmas.Bool.{and_parts}
use Rattle.kp_base.specs.declared.lit.Lit.{Lit}
use Rattle.kp_base.specs.Implicates.{are_below}
use Rattle.kp_base.specs.Lit.{positive, same_lit, has}
use Rattle.kp_run_classical.specs.Certain.{marked}

left_from : (lits : List Lit) (i : ℕ) (d : Lit) → i < length lits → drop i lits ≡ get_or lits i d ∷ drop (i + 1) lits
left_from lits i d lt = rw add-one (drop-cons lits i d lt)

-- what is left after one literal is below n, too
pub left_below : (n : ℕ) (lits : List Lit) (i : ℕ) → i < length lits → are_below n (drop i lits) ≡ true → are_below n (drop (i + 1) lits) ≡ true
left_below n lits i lt h = (and_parts _ _ (sym (ap (are_below n) (left_from lits i (positive 0) lt)) ∙ h)).1

-- one literal is marked
pub next_marked : (lits : List Lit) (i : ℕ) (d : Lit) (before after old : List Bool) (p : ℕ) → i < length lits → marked after p ≡ (same_lit (positive p) (get_or lits i d) || marked before p)
    → (has (drop i lits) (positive p) || marked before p) ≡ (has lits (positive p) || marked old p) → (has (drop (i + 1) lits) (positive p) || marked after p) ≡ (has lits (positive p) || marked old p)
next_marked lits i d before after old p lt this all =
    ap (λ b. has (drop (i + 1) lits) (positive p) || b) this
    ∙ (turned (has (drop (i + 1) lits) (positive p)) (same_lit (positive p) (get_or lits i d)) (marked before p)
    ∙ (ap (λ ls. has ls (positive p) || marked before p) (sym (left_from lits i d lt)) ∙ all))
  where
    turned : (rest this before : Bool) → (rest || (this || before)) ≡ ((this || rest) || before)
    turned true true b = refl
    turned true false b = refl
    turned false true b = refl
    turned false false b = refl
