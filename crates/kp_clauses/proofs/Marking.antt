-- Marks of clauses by their places.
use Rattle.std.proofs.Common.{◌≡◌, ℕ, zero, suc, false, List, [], ◌∷◌, ◌++◌, Option, Some, None, take, length, slice_get, refl, sym, ◌∙◌, subst}
use Rattle.std.proofs.lemmas.Bool.{false≢true, false_from_ne_true}
use Rattle.kp_base.specs.declared.lit.Lit.{Lit}
use Rattle.kp_base.specs.Implicates.{is_within}
use Rattle.kp_clauses.specs.Sieved.{IsMark, AreMarked, IsUnlike, stands}
use Rattle.kp_clauses.proofs.Sieving.{marks_fit}

-- as many marks as there are clauses are enough
pub marked_kept : (ws : List ℕ) (cs : List (List Lit)) → AreMarked ws cs → AreMarked (take (length cs) ws) cs
marked_kept ws [] h = tt
marked_kept [] (c ∷ cs) h = absurd h
marked_kept (w ∷ ws) (c ∷ cs) h = (h.0, marked_kept ws cs h.1)

pub marked_longer : (ws vs : List ℕ) (cs : List (List Lit)) → AreMarked ws cs → AreMarked (take (length cs) ws ++ vs) cs
marked_longer ws vs [] h = tt
marked_longer [] vs (c ∷ cs) h = absurd h
marked_longer (w ∷ ws) vs (c ∷ cs) h = (h.0, marked_longer ws vs cs h.1)

-- and one more is that of one clause more
pub marked_more : (ws : List ℕ) (cs : List (List Lit)) (c : List Lit) (w : ℕ) → AreMarked ws cs → IsMark c w → AreMarked (take (length cs) ws ++ w ∷ []) (cs ++ c ∷ [])
marked_more ws [] c w h m = (m, tt)
marked_more [] (d ∷ cs) c w h m = absurd h
marked_more (v ∷ ws) (d ∷ cs) c w h m = (h.0, marked_more ws cs c w h.1 m)

marked_at : (ws : List ℕ) (cs : List (List Lit)) (i : ℕ) (d : List Lit) (v : ℕ) → AreMarked ws cs → slice_get cs i ≡ Some d → slice_get ws i ≡ Some v → IsMark d v
marked_at ws [] i d v h at there = absurd (cc at)
marked_at [] (c ∷ cs) i d v h at there = absurd h
marked_at (w ∷ ws) (c ∷ cs) zero d v h at there = let e : c ≡ d = cc at in let f : w ≡ v = cc there in subst (λ z. IsMark z v) e (subst (IsMark c) f h.0)
marked_at (w ∷ ws) (c ∷ cs) (suc i) d v h at there = marked_at ws cs i d v h.1 at there

-- a clause whose mark lacks a bit of this one's doesn't hold it
pub unlike_tells : (ws : List ℕ) (cs : List (List Lit)) (i : ℕ) (c : List Lit) (w : ℕ) → AreMarked ws cs → IsMark c w → IsUnlike ws i w → stands (is_within c) (slice_get cs i) ≡ false
unlike_tells ws cs i c w h m u = go (slice_get cs i) refl
  where
    go : (o : Option (List Lit)) → slice_get cs i ≡ o → stands (is_within c) o ≡ false
    go None e = refl
    go (Some d) e = false_from_ne_true (is_within c d) (λ inside. false≢true (sym u.unlike ∙ marks_fit c d w u.other m (marked_at ws cs i d u.other h e u.there) inside))
