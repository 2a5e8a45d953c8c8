-- A search for the first set that passes, place by place.
use Rattle.std.proofs.Common.{◌≡◌, ◌<◌, ◌≤◌, ◌+◌, ◌-◌, ◌++◌, ℕ, suc, Bool, true, false, List, [], ◌∷◌, Option, Some, None, map, if◌then◌else◌, refl, sym, ap, ap₂, ◌∙◌, append_assoc, arith, length, take, length-append}
use Rattle.std.proofs.lemmas.Bool.{false≢true}
use Rattle.std.proofs.Math.Seq.{take-append_seam}
use Rattle.std.proofs.lemmas.List.{map-append}
use Rattle.std.specs.List.{range_with_len}
use Rattle.kp_base.proofs.Lists.{map_map}
use Rattle.kp_cover_subsets.specs.Subsets.{subsets, first_that}
use Rattle.kp_cover_subsets.specs.Searched.{Searched}

-- sets behind some chosen places
abbrev pub behind : List ℕ → List (List ℕ) → List (List ℕ)
behind old sets = map (λ s. old ++ s) sets

-- the places from a number on, below n
abbrev pub from_on : ℕ → ℕ → List ℕ
from_on n i = range_with_len i (n - i)

-- no set that begins before a place passes
pub record GoesOn (p : List ℕ → Bool) (n k from i : ℕ) (old chosen : List ℕ) : Type 0 where
  pub in_range : i ≤ n
  pub same : chosen ≡ old
  pub rest : first_that p (behind old (subsets k (from_on n from))) ≡ first_that p (behind old (subsets k (from_on n i)))

abbrev pub or_else : {X : Type 0} → Option X → Option X → Option X
or_else None o = o
or_else (Some x) o = Some x

first-append : {X : Type 0} (p : X → Bool) (xs ys : List X) → first_that p (xs ++ ys) ≡ or_else (first_that p xs) (first_that p ys)
first-append p [] ys = refl
first-append p (x ∷ xs) ys = go (p x) (first-append p xs ys)
  where
    go : (b : Bool) → first_that p (xs ++ ys) ≡ or_else (first_that p xs) (first_that p ys) → (if b then Some x else first_that p (xs ++ ys)) ≡ or_else (if b then Some x else first_that p xs) (first_that p ys)
    go true e = refl
    go false e = e

-- the first place, or a later one
parts : (k i m : ℕ) → subsets (suc k) (range_with_len i (suc m)) ≡ map (λ s. i ∷ s) (subsets k (range_with_len (i + 1) m)) ++ subsets (suc k) (range_with_len (i + 1) m)
parts k i m = refl

behind-parts : (old : List ℕ) (i : ℕ) (xs ys : List (List ℕ)) → behind old (map (λ s. i ∷ s) xs ++ ys) ≡ behind (old ++ i ∷ []) xs ++ behind old ys
behind-parts old i xs ys =
    map-append (λ s. old ++ s) (map (λ s. i ∷ s) xs) ys
    ∙ ap (λ z. z ++ behind old ys) (map_map (λ s. i ∷ s) (λ s. old ++ s) (λ s. (old ++ i ∷ []) ++ s) xs (λ s. sym (append_assoc old (i ∷ []) s)))

pub splits : (p : List ℕ → Bool) (n k i : ℕ) (old : List ℕ) → i < n → first_that p (behind old (subsets (suc k) (from_on n i))) ≡ or_else (first_that p (behind (old ++ i ∷ []) (subsets k (from_on n (i + 1))))) (first_that p (behind old (subsets (suc k) (from_on n (i + 1)))))
splits p n k i old lt =
    let e : n - i ≡ suc (n - (i + 1)) = omega arith in
    ap (λ m. first_that p (behind old (subsets (suc k) (range_with_len i m)))) e
    ∙ (ap (first_that p) (behind-parts old i (subsets k (from_on n (i + 1))) (subsets (suc k) (from_on n (i + 1))))
    ∙ first-append p (behind (old ++ i ∷ []) (subsets k (from_on n (i + 1)))) (behind old (subsets (suc k) (from_on n (i + 1)))))

-- ---- from no chosen places

behind-none : (sets : List (List ℕ)) → behind [] sets ≡ sets
behind-none [] = refl
behind-none (s ∷ sets) = ap (λ z. s ∷ z) (behind-none sets)

pub found_first : (p : List ℕ → Bool) (sets : List (List ℕ)) (old new : List ℕ) (found : Bool) → found ≡ true → old ≡ [] → Searched p sets old found new → first_that p sets ≡ Some new
found_first p sets old new found is none s =
    ap (first_that p) (sym (behind-none sets) ∙ ap (λ z. behind z sets) (sym none)) ∙ (s.first ∙ ap (λ b. if b then Some new else None) is)

pub none_first : (p : List ℕ → Bool) (sets : List (List ℕ)) (old new : List ℕ) (found : Bool) → found ≡ false → old ≡ [] → Searched p sets old found new → first_that p sets ≡ None
none_first p sets old new found is none s =
    ap (first_that p) (sym (behind-none sets) ∙ ap (λ z. behind z sets) (sym none)) ∙ (s.first ∙ ap (λ b. if b then Some new else None) is)

-- ---- the turns of the search

module _ (p : List ℕ → Bool) (n k k' from i : ℕ) (old chosen with_one : List ℕ) (is : k ≡ suc k') (goes : GoesOn p n k from i old chosen) (lt : i < n) (more : with_one ≡ chosen ++ i ∷ []) where
  turn : first_that p (behind old (subsets k (from_on n from))) ≡ or_else (first_that p (behind with_one (subsets k' (from_on n (i + 1))))) (first_that p (behind old (subsets k (from_on n (i + 1)))))
  turn =
      goes.rest
      ∙ (ap (λ m. first_that p (behind old (subsets m (from_on n i)))) is
      ∙ (splits p n k' i old lt
      ∙ ap₂ (λ c m. or_else (first_that p (behind c (subsets k' (from_on n (i + 1))))) (first_that p (behind old (subsets m (from_on n (i + 1)))))) (sym (more ∙ ap (λ c. c ++ i ∷ []) goes.same)) (sym is)))

  pub found_here : (found : Bool) (new : List ℕ) → found ≡ true → Searched p (subsets k' (from_on n (i + 1))) with_one found new → Searched p (subsets k (from_on n from)) old true new
  found_here found new yep s = record {
    first = turn ∙ ap (λ o. or_else o (first_that p (behind old (subsets k (from_on n (i + 1)))))) (s.first ∙ ap (λ b. if b then Some new else None) yep);
    unchanged = λ e. absurd (false≢true (sym e));
  }

  pub not_here : (found : Bool) (new popped : List ℕ) → found ≡ false → Searched p (subsets k' (from_on n (i + 1))) with_one found new → (new ≡ chosen ++ i ∷ [] → popped ≡ chosen) → GoesOn p n k from (i + 1) old popped
  not_here found new popped is-not s back = record {
    in_range = omega (arith, lt);
    same = back (s.unchanged is-not ∙ more) ∙ goes.same;
    rest = turn ∙ ap (λ o. or_else o (first_that p (behind old (subsets k (from_on n (i + 1)))))) (s.first ∙ ap (λ b. if b then Some new else None) is-not);
  }

-- the last place taken away again
pub popped_is : (chosen new popped : List ℕ) (i len : ℕ) → len ≡ length new → popped ≡ take (len - 1) new → new ≡ chosen ++ i ∷ [] → popped ≡ chosen
popped_is chosen new popped i len long rest is =
    rest ∙ (ap₂ (λ m xs. take m xs) (omega (arith, long, ap length is, length-append chosen (i ∷ []))) is ∙ take-append_seam chosen (i ∷ []))
