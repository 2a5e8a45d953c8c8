-- Lists of pieces that are put one after the other.
use Rattle.std.proofs.Common.{◌≡◌, ℕ, List, ◌++◌, sym, ap, ◌∙◌}
use Rattle.kp_law_texts.specs.Pieces.{Piece, spelling, Put, each, Puts}
use Rattle.kp_law_texts.proofs.Public.{LeavesToPut, each-append}

-- some of those that are todo were put
pub some_more : {T : Type 0} (before now next : List ℕ) (f : T → Put) (xs todo more all : List T) → todo ≡ xs ++ more → LeavesToPut before now f todo all → Puts now next (each f xs) → LeavesToPut before next f more all
some_more before now next f xs todo more all e h p = record {
  leaves = λ rest.
      p.puts (each f more rest) ∙ ap (λ (ps : List Piece). now ++ spelling ps) (sym (each-append f xs more rest))
      ∙ ap (λ (l : List _). now ++ spelling (each f l rest)) (sym e) ∙ h.leaves rest;
}

-- two lists are put as one
pub both_put : {T : Type 0} (a b c : List ℕ) (f : T → Put) (xs ys : List T) → Puts a b (each f xs) → Puts b c (each f ys) → Puts a c (each f (xs ++ ys))
both_put a b c f xs ys p q = record { puts = λ rest. q.puts rest ∙ p.puts (each f ys rest) ∙ ap (λ (ps : List Piece). a ++ spelling ps) (sym (each-append f xs ys rest)) }
