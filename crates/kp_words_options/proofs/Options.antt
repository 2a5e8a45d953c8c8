-- Words that begin with two dashes.
use Rattle.std.proofs.Common.{◌≡◌, ◌∙◌, ◌+◌, ◌==◌, ◌||◌, ℕ, zero, suc, Bool, true, false, not, List, [], ◌∷◌, ◌++◌, Option, Some, None, refl, ap, sym, subst, codes, arith, eqb-true, true≢false, option_and_then, cond, take, drop, add-one, one-add}
use Rattle.std.specs.List.{list_any, before_first, after_first, position_or_len}
use Rattle.std.proofs.lemmas.Bool.{not-true}
use Rattle.clap.specs.Lexer.{long_of, long_of_rest, name_and_value, strip_byte}
use Rattle.clap.proofs.CutLemmas.{Lacks}
use Rattle.clap.proofs.LexerLemmas.{name_and_value-at, name_and_value-without}
use Rattle.kp_words_options.specs.Words.{is_option_name}

abbrev is_equals : ℕ → Bool
is_equals x = x == 61

first_differs : (x : ℕ) (xs : List ℕ) → (x == 61) ≡ false → Lacks 61 xs → Lacks 61 (x ∷ xs)
first_differs x xs f all zero lt same = absurd (true≢false (rw same at f))
first_differs x xs f all (suc i) lt same = all i (omega (arith, lt)) same

lacking : (xs : List ℕ) → list_any is_equals xs ≡ false → Lacks 61 xs
lacking [] e = λ i lt same. absurd (omega (arith, lt))
lacking (x ∷ xs) e = go (x == 61) refl e (lacking xs)
  where
    go : (b : Bool) → (x == 61) ≡ b → (b || list_any is_equals xs) ≡ false → (list_any is_equals xs ≡ false → Lacks 61 xs) → Lacks 61 (x ∷ xs)
    go true f g next = absurd (true≢false g)
    go false f g next = first_differs x xs f (next g)

pub name_lacks : (n : List ℕ) → is_option_name n ≡ true → Lacks 61 n
name_lacks [] e = absurd (true≢false (sym e))
name_lacks (b ∷ rest) e = lacking (b ∷ rest) (not-true _ e)

-- an option is read as its name, and its value where that stands behind `=`
pub long_apart : (n : List ℕ) → is_option_name n ≡ true → long_of (codes "--" ++ n) ≡ Some (n, None)
long_apart [] e = absurd (true≢false (sym e))
long_apart (b ∷ rest) e = ap Some (name_and_value-without (b ∷ rest) (name_lacks (b ∷ rest) e))

pub long_joined : (n v : List ℕ) → is_option_name n ≡ true → long_of (codes "--" ++ (n ++ (codes "=" ++ v))) ≡ Some (n, Some v)
long_joined [] v e = absurd (true≢false (sym e))
long_joined (b ∷ rest) v e = ap Some (name_and_value-at (b ∷ rest) v (name_lacks (b ∷ rest) e))

-- ---- and the other way

-- a text without its byte at a place, which is `=`
abbrev with_equals : ℕ → List ℕ → List ℕ
with_equals k text = take k text ++ 61 ∷ drop (suc k) text

next_place : (x : ℕ) (xs : List ℕ) → (x == 61) ≡ false → position_or_len is_equals (x ∷ xs) ≡ suc (position_or_len is_equals xs)
next_place x xs f = ap (λ (b : Bool). cond (not b) (1 + position_or_len is_equals xs) 0) f ∙ one-add (position_or_len is_equals xs)

first_place : (x : ℕ) (xs : List ℕ) → (x == 61) ≡ true → position_or_len is_equals (x ∷ xs) ≡ 0
first_place x xs f = ap (λ (b : Bool). cond (not b) (1 + position_or_len is_equals xs) 0) f

rejoin : (text : List ℕ) → list_any is_equals text ≡ true → with_equals (position_or_len is_equals text) text ≡ text
rejoin [] e = absurd (true≢false (sym e))
rejoin (x ∷ xs) e = go (x == 61) refl e (rejoin xs)
  where
    go : (b : Bool) → (x == 61) ≡ b → (b || list_any is_equals xs) ≡ true → (list_any is_equals xs ≡ true → with_equals (position_or_len is_equals xs) xs ≡ xs)
        → with_equals (position_or_len is_equals (x ∷ xs)) (x ∷ xs) ≡ x ∷ xs
    go true f g next = ap (λ (k : ℕ). with_equals k (x ∷ xs)) (first_place x xs f) ∙ ap (λ (y : ℕ). y ∷ xs) (sym (eqb-true x 61 f))
    go false f g next = ap (λ (k : ℕ). with_equals k (x ∷ xs)) (next_place x xs f) ∙ ap (λ (ys : List ℕ). x ∷ ys) (next g)

rejoined : (text : List ℕ) → list_any is_equals text ≡ true → before_first is_equals text ++ 61 ∷ after_first is_equals text ≡ text
rejoined text e = ap (λ (k : ℕ). take (position_or_len is_equals text) text ++ 61 ∷ drop k text) (add-one (position_or_len is_equals text)) ∙ rejoin text e

whole : (text : List ℕ) → list_any is_equals text ≡ false → take (position_or_len is_equals text) text ≡ text
whole [] e = refl
whole (x ∷ xs) e = go (x == 61) refl e (whole xs)
  where
    go : (b : Bool) → (x == 61) ≡ b → (b || list_any is_equals xs) ≡ false → (list_any is_equals xs ≡ false → take (position_or_len is_equals xs) xs ≡ xs)
        → take (position_or_len is_equals (x ∷ xs)) (x ∷ xs) ≡ x ∷ xs
    go true f g next = absurd (true≢false g)
    go false f g next = ap (λ (k : ℕ). take k (x ∷ xs)) (next_place x xs f) ∙ ap (λ (ys : List ℕ). x ∷ ys) (next g)

-- the text of a name, and of the value behind `=`
abbrev pub option_text : List ℕ → Option (List ℕ) → List ℕ
option_text n None = n
option_text n (Some v) = n ++ 61 ∷ v

split_again : (t n : List ℕ) (v : Option (List ℕ)) → ◌≡◌ {A = List ℕ × Option (List ℕ)} (name_and_value t) (n, v) → t ≡ option_text n v
split_again t n v e = go (list_any is_equals t) refl v e
  where
    go : (b : Bool) → list_any is_equals t ≡ b → (v : Option (List ℕ)) → ◌≡◌ {A = List ℕ × Option (List ℕ)} (before_first is_equals t, cond b (Some (after_first is_equals t)) None) (n, v) → t ≡ option_text n v
    go true f v g = subst (λ (p : List ℕ × Option (List ℕ)). t ≡ option_text p.0 p.1) g (sym (rejoined t f))
    go false f v g = subst (λ (p : List ℕ × Option (List ℕ)). t ≡ option_text p.0 p.1) g (sym (whole t f))

strip_is : (w rest : List ℕ) → strip_byte 45 w ≡ Some rest → w ≡ 45 ∷ rest
strip_is [] rest e = absurd cc
strip_is (x ∷ xs) rest e = go (x == 45) refl e
  where
    go : (b : Bool) → (x == 45) ≡ b → cond b (Some xs) None ≡ Some rest → x ∷ xs ≡ 45 ∷ rest
    go true f g = rw (eqb-true x 45 f) cc
    go false f g = absurd cc

-- what is read as an option is written so
pub long_is : (w n : List ℕ) (v : Option (List ℕ)) → long_of w ≡ Some (n, v) → w ≡ codes "--" ++ option_text n v
long_is w n v e = first (strip_byte 45 w) refl e
  where
    third : (t : List ℕ) → long_of_rest t ≡ Some (n, v) → t ≡ option_text n v
    third [] e = absurd cc
    third (x ∷ xs) e = split_again (x ∷ xs) n v (let h : ◌≡◌ {A = List ℕ × Option (List ℕ)} (name_and_value (x ∷ xs)) (n, v) = cc in h)

    second : (rest : List ℕ) (o : Option (List ℕ)) → strip_byte 45 rest ≡ o → option_and_then long_of_rest o ≡ Some (n, v) → rest ≡ 45 ∷ option_text n v
    second rest None f g = absurd cc
    second rest (Some t) f g = strip_is rest t f ∙ ap (λ (ys : List ℕ). 45 ∷ ys) (third t g)

    first : (o : Option (List ℕ)) → strip_byte 45 w ≡ o → option_and_then long_of_rest (option_and_then (strip_byte 45) o) ≡ Some (n, v) → w ≡ 45 ∷ 45 ∷ option_text n v
    first None f g = absurd cc
    first (Some rest) f g = strip_is w rest f ∙ ap (λ (ys : List ℕ). 45 ∷ ys) (second rest (strip_byte 45 rest) refl g)
