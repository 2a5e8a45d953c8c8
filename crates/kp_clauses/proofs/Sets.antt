-- Lists of literals: members, ascending lists, and first literals.
use Rattle.std.proofs.Common.{◌≡◌, ◌<◌, ◌≤◌, ℕ, false, sym, ◌∙◌, Some, slice_get, ap, List, [], ◌∷◌, inl, inr, refl, arith}
use Rattle.std.proofs.lemmas.Bool.{false≢true, false_from_ne_true}
use Rattle.kp_base.specs.declared.lit.Lit.{Lit}
use Rattle.kp_base.specs.Planning.{Member, code_of, IsAscending}
use Rattle.kp_base.specs.Implicates.{is_within}
use Rattle.kp_base.specs.Steps.{has}
use Rattle.kp_base.proofs.Lists.{member_at}
use Rattle.kp_base.proofs.Lits.{has-member}
use Rattle.kp_clauses.proofs.Within.{within_member}

-- a clause with a literal that another hasn't isn't within it
pub ends_outside : (c d : List Lit) (i : ℕ) (x : Lit) → slice_get c i ≡ Some x → has d x ≡ false → is_within c d ≡ false
ends_outside c d i x at none = false_from_ne_true (is_within c d) (λ h. false≢true (sym none ∙ has-member d x (within_member c d h x (member_at c i x at))))

-- ---- first literals

pub least : (y : Lit) (ys : List Lit) → IsAscending (y ∷ ys) → (x : Lit) → Member (y ∷ ys) x → code_of y ≤ code_of x
least y [] s x m = elim m [ inl e ↦ let h = ap code_of e in omega arith | inr bad ↦ absurd bad ]
least y (z ∷ ys) s x m = elim m [ inl e ↦ let h = ap code_of e in omega arith | inr r ↦ let h = least z ys s.1 x r in let lt = s.0 in omega arith ]

-- the others of an ascending list stand behind its first literal
pub later : (y : Lit) (ys : List Lit) → IsAscending (y ∷ ys) → (x : Lit) → Member ys x → code_of y < code_of x
later y [] s x m = absurd m
later y (z ∷ ys) s x m = let h = least z ys s.1 x m in let lt = s.0 in omega arith

-- a clause whose first literal stands before that of an ascending one isn't within it
pub begins_outside : (c d : List Lit) (x y : Lit) → slice_get c 0 ≡ Some x → slice_get d 0 ≡ Some y → IsAscending d → code_of x < code_of y → is_within c d ≡ false
begins_outside [] d x y hx hy asc lt = cc
begins_outside (a ∷ c) [] x y hx hy asc lt = cc
begins_outside (a ∷ c) (b ∷ d) x y hx hy asc lt = false_from_ne_true (is_within (a ∷ c) (b ∷ d)) (λ h.
    let e : a ≡ x = cc in
    let f : b ≡ y = cc in
    let le = least b d asc a (within_member (a ∷ c) (b ∷ d) h a (inl refl)) in
    let g = ap code_of e in
    let k = ap code_of f in
    omega arith)
