-- Elements of lists one by one, and tags that go on.
use Rattle.std.proofs.Common.{◌≡◌, ◌<◌, ◌+◌, ◌++◌, ℕ, zero, suc, Bool, true, false, List, [], ◌∷◌, length, get_or, take, refl, sym, ap, subst, ◌∙◌, arith, Some, None, if◌then◌else◌}
use Rattle.kp_base.specs.declared.lit.Lit.{Lit}
use Rattle.kp_cover.specs.Grown.{is_fine, if_fine}

pub take_next : {X : Type 0} (xs : List X) (k : ℕ) (d : X) → k < length xs → take (k + 1) xs ≡ take k xs ++ get_or xs k d ∷ []
take_next [] k d lt = absurd (omega (arith, lt))
take_next (y ∷ ys) zero d lt = refl
take_next (y ∷ ys) (suc k) d lt = let e : suc k + 1 ≡ suc (k + 1) = omega arith in ap (λ m. take m (y ∷ ys)) e ∙ ap (λ z. y ∷ z) (take_next ys k d (omega (arith, lt)))

-- one element more
pub next_item : {X : Type 0} (xs : List X) (k : ℕ) (x : X) → k < length xs → x ≡ get_or xs k x → take (k + 1) xs ≡ take k xs ++ x ∷ []
next_item xs k x lt is = take_next xs k x lt ∙ ap (λ z. take k xs ++ z ∷ []) (sym is)

-- ---- tags that go on

fine_some : (ps : List (List Lit)) (t more : List Lit) → if_fine ps t ≡ Some more → (is_fine ps t ≡ true) × (t ≡ more)
fine_some ps t more h = go (is_fine ps t) refl h
  where
    go : (b : Bool) → is_fine ps t ≡ b → (if b then Some t else None) ≡ Some more → (is_fine ps t ≡ true) × (t ≡ more)
    go true is e = (is, cc e)
    go false is e = absurd (cc e)

-- a tag that goes on is fine
pub more_fine : (ps : List (List Lit)) (f : Lit → List Lit) (lits : List Lit) (k : ℕ) (d : Lit) (more : List Lit) → if_fine ps (f (get_or lits k d)) ≡ Some more → is_fine ps more ≡ true
more_fine ps f lits k d more e = let q = fine_some ps (f (get_or lits k d)) more e in subst (λ (u : List Lit). is_fine ps u ≡ true) q.1 q.0
