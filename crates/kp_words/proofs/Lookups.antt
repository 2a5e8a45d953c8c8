-- What stands under a name.
use Rattle.std.proofs.Common.{◌≡◌, ◌∙◌, ◌<◌, ℕ, zero, suc, Bool, true, false, List, [], ◌∷◌, Option, Some, None, bytes_eq, drop, map, length, get_or, refl, sym, arith}
use Rattle.std.specs.Borrow.{Bor}
use Rattle.kp_words_options.specs.Texts.{texts}
use Rattle.kp_words_options.specs.Words.{has_text}
use Rattle.kp_base.specs.declared.limits.Mode.{Mode}
use Rattle.kp_words.specs.Asked.{source_by}
use Rattle.kp_words.specs.Forms.{value_at}
use Rattle.kp_words.specs.Command.{file_of}

-- nothing stands under a name that isn't there
pub absent : (names : List (List ℕ)) (values : List (Option (List ℕ))) (name : List ℕ) → has_text names name ≡ false → value_at names values name ≡ None
absent [] values name e = refl
absent (n ∷ names) [] name e = refl
absent (n ∷ names) (v ∷ values) name e = by (bytes_eq n name) refl e (absent names values name)
  where
    by : (b : Bool) → bytes_eq n name ≡ b → has_text (n ∷ names) name ≡ false → (has_text names name ≡ false → value_at names values name ≡ None) → value_at (n ∷ names) (v ∷ values) name ≡ None
    by true f none rest = absurd (let g : has_text (n ∷ names) name ≡ true = rw f refl in cc (g, none))
    by false f none rest = rw f (rest (let g : has_text (n ∷ names) name ≡ has_text names name = rw f refl in sym g ∙ none))

-- where no values are left, nothing stands under a name
pub nothing_left : (names : List (List ℕ)) (name : List ℕ) → value_at names [] name ≡ None
nothing_left [] name = refl
nothing_left (n ∷ names) name = refl

-- the file of merges that tags come from is the one that is named
pub file_is : (mode : Mode) (o : Option (List ℕ)) → file_of (source_by mode o) ≡ o
file_is mode None = refl
file_is mode (Some name) = refl

-- ---- on the way through references

-- where the first name that is left isn't it, what is sought stands behind it
pub skips : {V : Type 0} (f : V → Option (List ℕ)) (d : Bor (List ℕ)) (names : List (Bor (List ℕ))) (values : List V) (i : ℕ) (name : List ℕ) → i < length names → bytes_eq (get_or names i d).now name ≡ false
    → value_at (texts (drop (suc i) names)) (map f (drop (suc i) values)) name ≡ value_at (texts (drop i names)) (map f (drop i values)) name
skips f d [] values i name lt other = absurd (omega (arith, lt))
skips f d (n ∷ ns) [] zero name lt other = nothing_left (texts ns) name
skips f d (n ∷ ns) (v ∷ vs) zero name lt other = rw other refl
skips f d (n ∷ ns) [] (suc i) name lt other = nothing_left (texts (drop (suc i) ns)) name ∙ sym (nothing_left (texts (drop i ns)) name)
skips f d (n ∷ ns) (v ∷ vs) (suc i) name lt other = skips f d ns vs i name (omega (arith, lt)) other

pub skips_words : (d : Bor (List ℕ)) (names words : List (Bor (List ℕ))) (i : ℕ) (name : List ℕ) → i < length names → bytes_eq (get_or names i d).now name ≡ false
    → value_at (texts (drop (suc i) names)) (map Some (texts (drop (suc i) words))) name ≡ value_at (texts (drop i names)) (map Some (texts (drop i words))) name
skips_words d [] words i name lt other = absurd (omega (arith, lt))
skips_words d (n ∷ ns) [] zero name lt other = nothing_left (texts ns) name
skips_words d (n ∷ ns) (w ∷ ws) zero name lt other = rw other refl
skips_words d (n ∷ ns) [] (suc i) name lt other = nothing_left (texts (drop (suc i) ns)) name ∙ sym (nothing_left (texts (drop i ns)) name)
skips_words d (n ∷ ns) (w ∷ ws) (suc i) name lt other = skips_words d ns ws i name (omega (arith, lt)) other
