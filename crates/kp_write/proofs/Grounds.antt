-- Literals of atoms, and their opposites.
use Rattle.std.proofs.Common.{Bool, true, false, if◌then◌else◌, nat_lt, ◌==◌, List, [], ◌∷◌, map, fold}
use Rattle.std.specs.List.{AllByRecursion}
use Rattle.kp_base.specs.declared.lit.Lit.{Lit}
use Rattle.kp_base.specs.declared.ground.GroundName.{GroundName}
use Rattle.kp_base.specs.Lit.{code_of, negated}
use Rattle.kp_base.specs.LitSet.{with_lit}
use Rattle.kp_write.specs.Facts.{opposites}
use Rattle.kp_write.specs.Grounds.{IsOfAtom, AreOfAtoms}

with_one : (P : Lit → Type 0) (l : Lit) (ls : List Lit) → P l → AllByRecursion P ls → AllByRecursion P (with_lit l ls)
with_one P l [] p h = (p, tt)
with_one P l (x ∷ xs) p h = go (with_one P l xs p h.1) (nat_lt (code_of l) (code_of x)) (code_of l == code_of x) where
  go : AllByRecursion P (with_lit l xs) → (before here : Bool) → AllByRecursion P (if before then l ∷ x ∷ xs else if here then x ∷ xs else x ∷ with_lit l xs)
  go later true here = (p, h)
  go later false true = h
  go later false false = (h.0, later)

pub opposites_of : (atoms : List GroundName) (ls : List Lit) → AreOfAtoms atoms ls → AreOfAtoms atoms (opposites ls)
opposites_of atoms ls h = go ls [] h tt where
  go : (ls set : List Lit) → AreOfAtoms atoms ls → AreOfAtoms atoms set → AreOfAtoms atoms (fold (λ set l. with_lit l set) set (map negated ls))
  go [] set h k = k
  go (l ∷ ls) set h k = go ls (with_lit (negated l) set) h.1 (with_one (IsOfAtom atoms) (negated l) set h.0 k)
