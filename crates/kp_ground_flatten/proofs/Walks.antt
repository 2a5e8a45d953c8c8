-- What comes of items one after another.
use Rattle.std.proofs.Common.{◌≡◌, List, [], ◌∷◌, ◌++◌, fold, sym, ap, ◌∙◌, append-nil}
use Rattle.std.specs.List.{flat_map}
use Rattle.std.proofs.lemmas.List.Sums.{fold-append}
use Rattle.std.proofs.lemmas.List.Concat.{flat_map-append}

-- what comes of the items of one list more
pub one_more : {S E X : Type 0} (f : S → E → S) (a : S) (g : X → List E) (xs : List X) (x : X) → fold f (fold f a (flat_map g xs)) (g x) ≡ fold f a (flat_map g (xs ++ x ∷ []))
one_more f a g xs x = sym (fold-append f a (flat_map g xs) (g x)) ∙ ap (fold f a) (sym (flat_map-append g xs (x ∷ []) ∙ ap (λ z. flat_map g xs ++ z) (append-nil (g x))))
