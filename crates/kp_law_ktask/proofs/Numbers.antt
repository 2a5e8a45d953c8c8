-- The number of a fact.
use Rattle.std.proofs.Common.{◌≡◌, ◌<◌, ◌+◌, ◌*◌, ℕ, zero, suc, Bool, true, false, if◌then◌else◌, List, [], ◌∷◌, Some, option_map, length, slice_get, refl, sym, ap, subst, ◌∙◌, arith}
use Rattle.std.proofs.lemmas.List.{length-map, length-append}
use Rattle.std.proofs.lemmas.Option.{slice_get-map}
use Rattle.kp_base.specs.declared.lit.Lit.{Lit}
use Rattle.kp_base.specs.Lit.{code_of}
use Rattle.kp_base.proofs.Places.{get_left, get_right}
use Rattle.kp_law_ktask.specs.Task.{name_of_fact, facts_of, lits_from, under, facts_from}
use Rattle.kp_law_ktask.specs.Weight.{FactsAreCounted}
use Rattle.kp_law_ktask.specs.Laws.{FactsAreNumbered}

lit_place : (i n d a k : ℕ) (b : Bool) → a ≡ i + d → d < n → k ≡ 2 * d + (if b then 0 else 1) → slice_get (lits_from i n) k ≡ Some (record { atom = record { 0 = a }; positive = b })
lit_place i zero d a k b e less at = absurd (omega (arith, less))
lit_place i (suc n) zero a k true e less at =
    let here : i ≡ a = omega (arith, e) in
    let first : 0 ≡ k = omega (arith, at) in
    subst (λ m. slice_get (lits_from i (suc n)) m ≡ Some (record { atom = record { 0 = a }; positive = true })) first (ap (λ x. Some (record { atom = record { 0 = x }; positive = true })) here)
lit_place i (suc n) zero a k false e less at =
    let here : i ≡ a = omega (arith, e) in
    let second : 1 ≡ k = omega (arith, at) in
    subst (λ m. slice_get (lits_from i (suc n)) m ≡ Some (record { atom = record { 0 = a }; positive = false })) second (ap (λ x. Some (record { atom = record { 0 = x }; positive = false })) here)
lit_place i (suc n) (suc d) a k b e less at =
    let more : suc (suc (2 * d + (if b then 0 else 1))) ≡ k = omega (arith, at) in
    subst (λ m. slice_get (lits_from i (suc n)) m ≡ Some (record { atom = record { 0 = a }; positive = b })) more (lit_place (suc i) n d a (2 * d + (if b then 0 else 1)) b (omega (arith, e)) (omega (arith, less)) refl)

lits_length : (i n : ℕ) → length (lits_from i n) ≡ 2 * n
lits_length i zero = refl
lits_length i (suc n) = let rest = lits_length (suc i) n in omega (arith, rest)

under_length : (t : ℕ) (ls : List Lit) → length (under t ls) ≡ length ls
under_length t [] = refl
under_length t (l ∷ ls) = ap suc (under_length t ls)

one_more : (d m : ℕ) → suc d * m ≡ m + d * m
one_more d m = omega arith

fact_place : (t n d u k j : ℕ) (ls : List Lit) (l : Lit) → u ≡ t + d → d < n → slice_get ls j ≡ Some l → k ≡ d * length ls + j → slice_get (facts_from t n ls) k ≡ Some (record { tag = u; lit = l })
fact_place t zero d u k j ls l e less there at = absurd (omega (arith, less))
fact_place t (suc n) zero u k j ls l e less there at =
    let here : t ≡ u = omega (arith, e) in
    let same : j ≡ k = omega (arith, at) in
    subst (λ m. slice_get (facts_from t (suc n) ls) m ≡ Some (record { tag = u; lit = l })) same
    (get_left (under t ls) (facts_from (suc t) n ls) j (record { tag = u; lit = l })
    (slice_get-map (λ (l : Lit). record { tag = t; lit = l }) ls j ∙ ap (option_map (λ (l : Lit). record { tag = t; lit = l })) there ∙ ap (λ x. Some (record { tag = x; lit = l })) here))
fact_place t (suc n) (suc d) u k j ls l e less there at =
    let size = under_length t ls in
    let more = one_more d (length ls) in
    get_right (under t ls) (facts_from (suc t) n ls) (d * length ls + j) k (omega (arith, at, size, more))
    ∙ fact_place (suc t) n d u (d * length ls + j) j ls l (omega (arith, e)) (omega (arith, less)) there refl

facts_from_length : (t n : ℕ) (ls : List Lit) → length (facts_from t n ls) ≡ n * length ls
facts_from_length t zero ls = omega arith
facts_from_length t (suc n) ls =
    let first = under_length t ls in
    let rest = facts_from_length (suc t) n ls in
    let more = one_more n (length ls) in
    length-append (under t ls) (facts_from (suc t) n ls) ∙ omega (arith, first, rest, more)

-- how many facts there are
pub facts_length : FactsAreCounted
facts_length g table =
    length-map (facts_of g table) (name_of_fact g.atoms) ∙ facts_from_length 0 (length table.tags) (lits_from 0 (length g.atoms)) ∙ ap (λ m. length table.tags * m) (lits_length 0 (length g.atoms))

pub numbered : FactsAreNumbered
numbered g table t l below b =
    fact_place 0 (length table.tags) t t (t * (2 * length g.atoms) + code_of l) (code_of l) (lits_from 0 (length g.atoms)) l (omega arith) below
    (lit_place 0 (length g.atoms) l.atom.0 l.atom.0 (code_of l) l.positive (omega arith) b refl)
    (ap (λ m. t * m + code_of l) (sym (lits_length 0 (length g.atoms))))
