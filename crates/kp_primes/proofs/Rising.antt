-- Ascending lists of literals.
use Rattle.std.proofs.Common.{◌<◌, List, [], ◌∷◌, inl, inr, subst, arith}
use Rattle.kp_base.specs.declared.lit.Lit.{Lit}
use Rattle.kp_base.specs.Planning.{Member, code_of, IsAscending, IsOnce}
use Rattle.kp_base.proofs.Ascending.{tail_ascends}

pub above : (l : Lit) (ls : List Lit) → IsAscending (l ∷ ls) → (x : Lit) → Member ls x → code_of l < code_of x
above l [] h x m = absurd m
above l (y ∷ ls) h x m = elim m [
  | inl e ↦ subst (λ (z : Lit). code_of l < code_of z) e h.0
  | inr r ↦ let a = above y ls h.1 x r in let b = h.0 in omega arith
]

-- a literal that comes first doesn't come again
pub first_once : (l : Lit) (ls : List Lit) → IsAscending (l ∷ ls) → Member ls l → ⊥
first_once l ls h m = let a = above l ls h l m in absurd (omega arith)

pub ascending_once : (ls : List Lit) → IsAscending ls → IsOnce ls
ascending_once [] h = tt
ascending_once (l ∷ ls) h = (first_once l ls h, ascending_once ls (tail_ascends l ls h))
