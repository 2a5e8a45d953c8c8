-- Rows of facts and effects that are made tag by tag.
use Rattle.std.proofs.Common.{◌≡◌, ◌<◌, ◌+◌, ◌-◌, ℕ, suc, List, [], ◌∷◌, ◌++◌, Some, map, length, slice_get, refl, sym, ap, ◌∙◌, append_assoc, arith}
use Rattle.std.proofs.lemmas.List.{map-append}
use Rattle.std.specs.List.{flat_map}
use Rattle.kp_base.specs.declared.lit.Lit.{Lit}
use Rattle.kp_base.specs.declared.ground.GroundName.{GroundName}
use Rattle.kp_write.specs.Facts.{facts_of_atom}
use Rattle.kp_law_ktask.specs.Task.{name_of_fact, lits_from, under, facts_from}

-- the names of one tag's facts are those of the atoms
names_under : (atoms rest : List GroundName) (t i : ℕ) → ((j : ℕ) → slice_get atoms (i + j) ≡ slice_get rest j) → map (name_of_fact atoms) (under t (lits_from i (length rest))) ≡ flat_map (facts_of_atom t) rest
names_under atoms [] t i same = refl
names_under atoms (n ∷ ns) t i same =
    let here : slice_get atoms i ≡ Some n = (let e : i ≡ i + 0 = omega arith in ap (λ k. slice_get atoms k) e ∙ same 0) in
    let later = names_under atoms ns t (suc i) (λ j. let e : suc i + j ≡ i + suc j = omega arith in ap (λ k. slice_get atoms k) e ∙ same (suc j)) in
    rw (here, later) refl

one_fewer : (t tags : ℕ) → t < tags → tags - t ≡ suc (tags - (t + 1))
one_fewer t tags below = omega (arith, below)

next_tag : (t : ℕ) → suc t ≡ t + 1
next_tag t = omega arith

-- where one tag's facts have come, those of the later tags are left
pub facts_left : (atoms : List GroundName) (t tags : ℕ) (now next all : List (List ℕ)) → t < tags → now ++ map (name_of_fact atoms) (facts_from t (tags - t) (lits_from 0 (length atoms))) ≡ all
    → next ≡ now ++ flat_map (facts_of_atom t) atoms → next ++ map (name_of_fact atoms) (facts_from (t + 1) (tags - (t + 1)) (lits_from 0 (length atoms))) ≡ all
facts_left atoms t tags now next all below h e =
    let ls : List Lit = lits_from 0 (length atoms) in
    let first : map (name_of_fact atoms) (under t ls) ≡ flat_map (facts_of_atom t) atoms = names_under atoms atoms t 0 (λ j. let e : 0 + j ≡ j = omega arith in ap (λ k. slice_get atoms k) e) in
    let whole : map (name_of_fact atoms) (facts_from t (tags - t) ls) ≡ flat_map (facts_of_atom t) atoms ++ map (name_of_fact atoms) (facts_from (t + 1) (tags - (t + 1)) ls) =
    ap (λ k. map (name_of_fact atoms) (facts_from t k ls)) (one_fewer t tags below)
    ∙ map-append (name_of_fact atoms) (under t ls) (facts_from (suc t) (tags - (t + 1)) ls)
    ∙ ap (λ ns. ns ++ map (name_of_fact atoms) (facts_from (suc t) (tags - (t + 1)) ls)) first
    ∙ ap (λ u. flat_map (facts_of_atom t) atoms ++ map (name_of_fact atoms) (facts_from u (tags - (t + 1)) ls)) (next_tag t) in
    rw e (append_assoc now (flat_map (facts_of_atom t) atoms) (map (name_of_fact atoms) (facts_from (t + 1) (tags - (t + 1)) ls)) ∙ ap (λ ns. now ++ ns) (sym whole) ∙ h)

-- what comes from a tag on is what comes under it, and then what comes from the next tag on
pub one_tag : {A : Type 0} (f : ℕ → List A) (from : ℕ → ℕ → List A) → ((t k : ℕ) → from t (suc k) ≡ f t ++ from (suc t) k) → (t tags : ℕ) → t < tags → from t (tags - t) ≡ f t ++ from (t + 1) (tags - (t + 1))
one_tag f from step t tags below = ap (λ k. from t k) (one_fewer t tags below) ∙ step t (tags - (t + 1)) ∙ ap (λ u. f t ++ from u (tags - (t + 1))) (next_tag t)

-- so where that has come, the latter is left
pub effects_left : {A : Type 0} (f : ℕ → List A) (from : ℕ → ℕ → List A) → ((t k : ℕ) → from t (suc k) ≡ f t ++ from (suc t) k) → (t tags : ℕ) (now next all : List A) → t < tags → now ++ from t (tags - t) ≡ all → next ≡ now ++ f t → next ++ from (t + 1) (tags - (t + 1)) ≡ all
effects_left f from step t tags now next all below h e =
    rw e (append_assoc now (f t) (from (t + 1) (tags - (t + 1))) ∙ ap (λ ns. now ++ ns) (sym (one_tag f from step t tags below)) ∙ h)
