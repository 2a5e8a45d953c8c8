-- The first literal of a literal set that is false is the least.
use Rattle.std.proofs.Common.{◌≡◌, ◌<◌, ◌≤◌, Bool, true, false, if◌then◌else◌, List, [], ◌∷◌, Some, refl, sym, ap, subst, ◌∙◌, inl, inr, arith}
use Rattle.std.proofs.lemmas.Bool.{false≢true}
use Rattle.kp_base.specs.declared.lit.Lit.{Lit}
use Rattle.kp_base.specs.Planning.{Member, code_of, IsAscending, State, holds, IsLeastMissing}
use Rattle.kp_base.proofs.Ascending.{tail_ascends}
use Rattle.kp_check.specs.FailingValues.{first_false}

above : (x : Lit) (ls : List Lit) → IsAscending (x ∷ ls) → (m : Lit) → Member ls m → code_of x < code_of m
above x [] up m in-ls = absurd in-ls
above x (y ∷ ls) up m (inl e) = subst (λ z. code_of x < code_of z) e up.0
above x (y ∷ ls) up m (inr in-ls) = let a = above y ls up.1 m in-ls in let b = up.0 in omega arith

pub first_least : (s : State) (ls : List Lit) (l : Lit) → IsAscending ls → first_false s ls ≡ Some l → IsLeastMissing (holds s) ls l
first_least s [] l up h = cc
first_least s (x ∷ ls) l up h = pick (holds s x) refl h (λ e. first_least s ls l (tail_ascends x ls up) e)
  where
    least_of : (m : Lit) → Member (x ∷ ls) m → code_of x ≤ code_of m
    least_of m (inl e) = subst (λ z. code_of x ≤ code_of z) e (omega arith)
    least_of m (inr k) = let a = above x ls up m k in omega arith

    later : holds s x ≡ true → IsLeastMissing (holds s) ls l → (m : Lit) → Member (x ∷ ls) m → holds s m ≡ false → code_of l ≤ code_of m
    later t i m (inl e) off = absurd (false≢true (sym off ∙ (ap (holds s) (sym e) ∙ t)))
    later t i m (inr k) off = i.least m k off

    pick : (b : Bool) → holds s x ≡ b → (if b then first_false s ls else Some x) ≡ Some l → (first_false s ls ≡ Some l → IsLeastMissing (holds s) ls l) → IsLeastMissing (holds s) (x ∷ ls) l
    pick true t e rest = let i = rest e in record { among = inr i.among; missing = i.missing; least = later t i }
    pick false t e rest = let same : x ≡ l = cc in subst (IsLeastMissing (holds s) (x ∷ ls)) same (record { among = inl refl; missing = t; least = λ m k off. least_of m k })
