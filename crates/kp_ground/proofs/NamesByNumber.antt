-- Names by number.
use Rattle.std.proofs.Common.{◌≡◌, ℕ, zero, suc, ◌<◌, ◌≤◌, List, [], ◌∷◌, length, map, get_or, refl, sym, ap, ◌∙◌, map-id, arith}
use Rattle.kp_names_semantics.specs.Names.{Name}
use Rattle.kp_names_semantics.specs.Numbering.{name_at}

-- the name of what stands there
pub name_there : {X : Type 0} (f : X → Name) (xs : List X) (n : ℕ) (x : X) → n < length xs → x ≡ get_or xs n x → name_at (map f xs) n ≡ f x
name_there f [] n x lt h = absurd (omega arith)
name_there f (y ∷ ys) zero x lt h = ap f (sym h)
name_there f (y ∷ ys) (suc n) x lt h = name_there f ys n x (omega arith) h

-- there is none
pub no_name : {X : Type 0} (f : X → Name) (xs : List X) (n : ℕ) → length xs ≤ n → name_at (map f xs) n ≡ []
no_name f [] n le = refl
no_name f (y ∷ ys) zero le = absurd (omega arith)
no_name f (y ∷ ys) (suc n) le = no_name f ys n (omega arith)

-- the same in a list of names
pub text_there : (xs : List Name) (n : ℕ) (x : Name) → n < length xs → x ≡ get_or xs n x → name_at xs n ≡ x
text_there xs n x lt h = ap (λ names. name_at names n) (sym (map-id xs)) ∙ name_there (λ y. y) xs n x lt h

pub no_text : (xs : List Name) (n : ℕ) → length xs ≤ n → name_at xs n ≡ []
no_text xs n le = ap (λ names. name_at names n) (sym (map-id xs)) ∙ no_name (λ y. y) xs n le
