-- What is found by its word.
use Rattle.std.proofs.Common.{◌≡◌, ◌≢◌, ◌∙◌, refl, ap, sym, subst, ℕ, Bool, true, false, cond, List, [], ◌∷◌, Option, Some, None, MatchOption, bytes_eq}
use Rattle.std.specs.List.{find}
use Rattle.std.proofs.lemmas.Slice.Eq.{bytes_eq-Decides}

-- what is found passes the test
found_passes : {X : Type 0} (p : X → Bool) (xs : List X) (x : X) → find p xs ≡ Some x → p x ≡ true
found_passes p [] x e = absurd cc
found_passes p (y ∷ ys) x e = by (p y) refl e (found_passes p ys x)
  where
    by : (b : Bool) → p y ≡ b → cond b (Some y) (find p ys) ≡ Some x → (find p ys ≡ Some x → p x ≡ true) → p x ≡ true
    by true passes f next = let same : y ≡ x = cc in subst (λ z. p z ≡ true) same passes
    by false fails f next = next f

-- where each of these is found by its word, a word finds the one whose word it is
pub named_is : {X : Type 0} (word : X → List ℕ) (all : List X) → ((x : X) → find (λ y. bytes_eq (word x) (word y)) all ≡ Some x) → (w : List ℕ)
    → MatchOption (find (λ y. bytes_eq w (word y)) all) ((x : X) → w ≢ word x) (λ x. w ≡ word x)
named_is {X} word all again w = by (find (λ y. bytes_eq w (word y)) all) refl
  where
    by : (o : Option X) → find (λ y. bytes_eq w (word y)) all ≡ o → MatchOption o ((x : X) → w ≢ word x) (λ x. w ≡ word x)
    by (Some x) e = (bytes_eq-Decides w (word x)).0 (found_passes (λ y. bytes_eq w (word y)) all x e)
    by None e = λ x same. let none : None ≡ Some x = sym e ∙ (ap (λ u. find (λ y. bytes_eq u (word y)) all) same ∙ again x) in absurd cc

-- and a word is that of one at most
pub one_named : {X : Type 0} (word : X → List ℕ) (all : List X) → ((x : X) → find (λ y. bytes_eq (word x) (word y)) all ≡ Some x) → (x y : X) → word x ≡ word y → x ≡ y
one_named word all again x y e = let same : Some x ≡ Some y = sym (again x) ∙ (ap (λ u. find (λ z. bytes_eq u (word z)) all) e ∙ again y) in cc
