-- Pieces that are written one after the other.
use Rattle.std.proofs.Common.{◌≡◌, ℕ, ◌+◌, List, [], ◌∷◌, ◌++◌, refl, sym, ap, ◌∙◌, append_assoc}
use Rattle.kp_law_texts.specs.Pieces.{Piece, spelling, Put, each, Puts}

-- What was written, and what f puts of those that are todo, are what it puts of all.
pub record Leaves {T : Type 0} (before now : List ℕ) (f : T → Put) (todo all : List T) : Type 0 where
  pub leaves : (rest : List Piece) → now ++ spelling (each f todo rest) ≡ before ++ spelling (each f all rest)

pub one_more : {T : Type 0} (before now next : List ℕ) (f : T → Put) (x : T) (todo more all : List T) → todo ≡ x ∷ more → Leaves before now f todo all → Puts now next (f x) → Leaves before next f more all
one_more before now next f x todo more all e h p = record { leaves = λ rest. p.puts (each f more rest) ∙ ap (λ (l : List _). now ++ spelling (each f l rest)) (sym e) ∙ h.leaves rest }

-- bytes that were written
pub wrote : (a b bytes rest : List ℕ) → b ≡ a ++ bytes → b ++ rest ≡ a ++ (bytes ++ rest)
wrote a b bytes rest e = rw e (append_assoc a bytes rest)

pub each-append : {T : Type 0} (f : T → Put) (xs ys : List T) (rest : List Piece) → each f (xs ++ ys) rest ≡ each f xs (each f ys rest)
each-append f [] ys rest = refl
each-append f (x ∷ xs) ys rest = ap (f x) (each-append f xs ys rest)
