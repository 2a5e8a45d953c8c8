-- What is put while a front of a list is done, and how long a front of a content is.
use Rattle.std.proofs.Common.{◌≡◌, ◌<◌, ◌≤◌, ◌+◌, ◌++◌, ℕ, true, nat_lt, arith, suc, add-one, List, [], ◌∷◌, Option, Some, drop, take, get_or, length, refl, sym, ap, ◌∙◌, drop-cons}
use Rattle.std.proofs.lemmas.List.{length-take, length-take-le}
use Rattle.std.proofs.lemmas.Bool.Decides.{nat_tests}
use Rattle.kp_outside.specs.declared.outside.Got.{Got}
use Rattle.kp_outside.specs.Outside.{FileMap, IsFront, IsWithin, with_file}
use Rattle.kp_run_outcome.specs.declared.outcome.FilePut.{FilePut}
use Rattle.kp_run_outcome.specs.Ends.{with_files}

-- ---- lists

-- an item at the end of a front is one in front of the rest
moved : {X : Type 0} (front : List X) (x : X) (rest : List X) → front ++ (x ∷ rest) ≡ (front ++ (x ∷ [])) ++ rest
moved [] x rest = refl
moved (y ∷ ys) x rest = ap (y ∷◌) (moved ys x rest)

-- what is left at a place begins with the item there
pub left_at : {X : Type 0} (xs : List X) (i : ℕ) (x : X) → i < length xs → x ≡ get_or xs i x → drop i xs ≡ x ∷ drop (i + 1) xs
left_at xs i x within is = rw (add-one, drop-cons xs i x within) (ap (λ y. y ∷ drop (suc i) xs) (sym is))

-- ---- puts

-- the files up to the rest are put
pub record ArePut (old now : Option FileMap) (puts rest : List FilePut) : Type 0 where
  pub front : List FilePut
  pub in_order : puts ≡ front ++ rest
  pub held : now ≡ with_files old front

put_last : (held : Option FileMap) (front : List FilePut) (f : FilePut) → with_files held (front ++ (f ∷ [])) ≡ with_file (with_files held front) f.name f.content
put_last held [] f = refl
put_last held (x ∷ xs) f = put_last (with_file held x.name x.content) xs f

pub put_next : (old now new : Option FileMap) (puts rest : List FilePut) (f : FilePut) → new ≡ with_file now f.name f.content → ArePut old now puts (f ∷ rest) → ArePut old new puts rest
put_next old now new puts rest f is h = record {
  front = h.front ++ (f ∷ []);
  in_order = h.in_order ∙ moved h.front f rest;
  held = is ∙ (ap (λ m. with_file m f.name f.content) h.held ∙ sym (put_last old h.front f));
}

-- ---- gets

-- a front is no longer than what was asked for
pub front_within : (text : List ℕ) (most : ℕ) (got : Got) → IsFront (Some text) most got → IsWithin most got
front_within text most got h = (rw h.0 (take_short most text), λ more. rw h.0 (take_long most text (sym h.1 ∙ more)))
  where
    take_short : (n : ℕ) (xs : List ℕ) → length (take n xs) ≤ n
    take_short n xs = omega (arith, length-take n xs)

    take_long : (n : ℕ) (xs : List ℕ) → nat_lt n (length xs) ≡ true → length (take n xs) ≡ n
    take_long n xs e = length-take-le n xs (grind (arith, nat_tests, e))
