-- Merges of one target, put behind others.
use Rattle.std.proofs.Common.{◌≡◌, ◌<◌, ◌+◌, ◌++◌, ℕ, zero, suc, List, [], ◌∷◌, Result, Ok, Err, map, take, length, get_or, arith, sym, ap, subst, ◌∙◌, append_assoc, append-nil}
use Rattle.std.proofs.lemmas.List.{map-append}
use Rattle.kp_base.specs.declared.lit.Lit.{Lit}
use Rattle.kp_base.specs.declared.ground.Initial.{Initial}
use Rattle.kp_base.specs.declared.refused.Stop.{Stop}
use Rattle.kp_base.specs.declared.refused.Stop.TheVariants as stops
use Rattle.kp_base.specs.Covering.{AreTagsOfClauses, AllMeet}
use Rattle.kp_tags_files.specs.declared.merge.FileMerge.{FileMerge}
use Rattle.kp_tags_modes.specs.declared.way.Way.{Way}
use Rattle.kp_tags_modes.specs.Modes.{merge_of, ArePassed, IsLeastCover, AreOneForEach, AreOtherwise, AreMergesBy}
use Rattle.kp_tags_modes.specs.Added.{Adds, AddsOrRefuses, IsOver}

-- the elements up to the next place
pub next_is : {X : Type 0} (xs : List X) (k : ℕ) (x : X) → k < length xs → x ≡ get_or xs k x → take (k + 1) xs ≡ take k xs ++ x ∷ []
next_is [] k x lt is = absurd (omega (arith, lt))
next_is (y ∷ ys) zero x lt is = ap (λ z. z ∷ []) (sym is)
next_is (y ∷ ys) (suc k) x lt is = let e : suc k + 1 ≡ suc (k + 1) = omega arith in ap (λ m. take m (y ∷ ys)) e ∙ ap (λ z. y ∷ z) (next_is ys k x (omega (arith, lt)) is)

-- what is right in one sense is so in another
pub adds_as : (target : Lit) (some more : List (List (List Lit)) → Type 0) (old new : List FileMerge) → ((lists : List (List (List Lit))) → some lists → more lists) → Adds target some old new → Adds target more old new
adds_as target some more old new f a = record { lists = a.lists; right = f a.lists a.right; added = a.added }

-- no merge
pub adds_none : (target : Lit) (are : List (List (List Lit)) → Type 0) (old new : List FileMerge) → are [] → new ≡ old → Adds target are old new
adds_none target are old new h same = record { lists = []; right = h; added = same ∙ sym (append-nil old) }

pub refuses_as : (target : Lit) (some more : List (List (List Lit)) → Type 0) (few many : ℕ → Type 0) (old new : List FileMerge) (r : Result Unit Stop) → ((lists : List (List (List Lit))) → some lists → more lists) → ((size : ℕ) → few size → many size)
    → AddsOrRefuses target some few old new r → AddsOrRefuses target more many old new r
refuses_as target some more few many old new (Ok done) f g a = adds_as target some more old new f a
refuses_as target some more few many old new (Err (stops.Refused r)) f g a = (a.0, a.1, g a.0 a.2)
refuses_as target some more few many old new (Err stops.Memory) f g a = a

-- ---- one for each clause

one-more : (i : Initial) (cs : List (List Lit)) (c : List Lit) (lists : List (List (List Lit))) (tags : List (List Lit)) → AreOneForEach i cs lists → AreTagsOfClauses i (c ∷ []) tags → AreOneForEach i (cs ++ c ∷ []) (lists ++ tags ∷ [])
one-more i _ c _ tags AreOneForEach.done is = AreOneForEach.more c [] tags [] is AreOneForEach.done
one-more i _ c _ tags (AreOneForEach.more d ds first rest one others) is = AreOneForEach.more d (ds ++ c ∷ []) first (rest ++ tags ∷ []) one (one-more i ds c rest tags others is)

two-parts : (target : Lit) (old : List FileMerge) (xs ys : List (List (List Lit))) → (old ++ map (merge_of target) xs) ++ map (merge_of target) ys ≡ old ++ map (merge_of target) (xs ++ ys)
two-parts target old xs ys = append_assoc old (map (merge_of target) xs) (map (merge_of target) ys) ∙ ap (λ z. old ++ z) (sym (map-append (merge_of target) xs ys))

-- the merge over one clause more
pub next_each : (i : Initial) (target : Lit) (cs more one : List (List Lit)) (c : List Lit) (old now new : List FileMerge) → more ≡ cs ++ c ∷ [] → one ≡ c ∷ []
    → Adds target (AreOneForEach i cs) old now → Adds target (IsOver i one) now new → Adds target (AreOneForEach i more) old new
next_each i target cs more one c old now new next alone a b = go b.lists b.right b.added
  where
    go : (lists : List (List (List Lit))) → IsOver i one lists → new ≡ now ++ map (merge_of target) lists → Adds target (AreOneForEach i more) old new
    go _ (IsOver.one tags is) added = record {
      lists = a.lists ++ tags ∷ [];
      right = subst (λ (ds : List (List Lit)). AreOneForEach i ds (a.lists ++ tags ∷ [])) (sym next) (one-more i cs c a.lists tags a.right (subst (λ (ds : List (List Lit)). AreTagsOfClauses i ds tags) alone is));
      added = added ∙ (ap (λ z. z ++ map (merge_of target) (tags ∷ [])) a.added ∙ two-parts target old a.lists (tags ∷ []));
    }

-- ---- by what was found

module _ (way : Way) (limit : ℕ) (i : Initial) (cs : List (List Lit)) (uncovered : AllMeet i ([] ∷ []) cs → ⊥) where
  pub by_cover : (set : List (List Lit)) → IsLeastCover way limit i cs set → (lists : List (List (List Lit))) → IsOver i set lists → AreMergesBy way limit i cs lists
  by_cover set least _ (IsOver.one tags is) = AreMergesBy.least_cover set tags uncovered least is

  pub without : ArePassed way limit i cs (way.greatest + 1) → (lists : List (List (List Lit))) → AreOtherwise i cs way.by_models lists → AreMergesBy way limit i cs lists
  without passed lists h = AreMergesBy.otherwise lists uncovered passed h
