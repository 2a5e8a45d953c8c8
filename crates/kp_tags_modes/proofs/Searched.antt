-- What a search among places says of sets of clauses.
use Rattle.std.proofs.Common.{◌≡◌, ◌≤◌, ℕ, Bool, true, false, List, [], ◌∷◌, filter, length, get_or, refl, sym, subst, ◌∙◌, inl, inr}
use Rattle.std.proofs.lemmas.Bool.{false≢true}
use Rattle.std.proofs.lemmas.List.{length-map}
use Rattle.std.specs.List.{range_with_len}
use Rattle.kp_base.specs.declared.lit.Lit.{Lit}
use Rattle.kp_base.specs.Lists.{Member, each_once}
use Rattle.kp_base.specs.LitSet.{same_set}
use Rattle.kp_base.specs.Covering.{AllMeet}
use Rattle.kp_cover_subsets.specs.Subsets.{subsets, choose, place_sets}
use Rattle.kp_cover_subsets.specs.Sizes as sizes
use Rattle.kp_cover_subsets.proofs.Public.{subsets_are, first_some}
use Rattle.kp_primes.specs.Held.{Held, formula, AreWhole}
use Rattle.kp_primes.proofs.Public.{consistent_exact}
use Rattle.kp_cover.specs.Covering.{pick}
use Rattle.kp_cover.specs.Grown.{is_fine}
use Rattle.kp_cover.specs.Tested.{tells_cover}
use Rattle.kp_cover.specs.Laws.{CoversAreTold}
use Rattle.kp_tags_modes.specs.declared.way.Way.{Way}
use Rattle.kp_tags_modes.specs.Modes.{IsPassed, ArePassed, IsFirstCovering, IsLeastCover, IsRefusedAt}
use Rattle.kp_tags_modes.proofs.Picked.{first_covers, none_covers}

module _ (told : CoversAreTold) (h : Held) (whole : AreWhole h) (cs : List (List Lit)) where
  abbrev p : List ℕ → Bool
  p = tells_cover h cs

  -- ---- the empty tag

  pub empty_covers : p [] ≡ true → AllMeet (formula h) ([] ∷ []) cs
  empty_covers e tag c m mc =
      let cover = (told h whole cs []).0 e in
      let fine : cover.1.are.test [] ≡ true = (cover.1.are.tells []).1 whole.has_model in
      let is : each_once same_set (filter cover.1.are.test ([] ∷ [])) ≡ [] ∷ [] = rw fine refl in
      cover.1.cover tag c (subst (λ (tags : List (List Lit)). Member tags tag) (sym (cover.1.are.are ∙ is)) m) mc

  pub not_covers : p [] ≡ false → AllMeet (formula h) ([] ∷ []) cs → ⊥
  not_covers e meets =
      let fine : is_fine h.clauses [] ≡ true = (consistent_exact h whole []).1 whole.has_model in
      let is : [] ∷ [] ≡ each_once same_set (filter (is_fine h.clauses) ([] ∷ [])) = rw fine refl in
      false≢true (sym e ∙ (told h whole cs []).1 ([] ∷ [], record { are = record { test = is_fine h.clauses; tells = consistent_exact h whole; are = is }; cover = meets }))

  -- ---- sizes

  module _ (way : Way) (limit : ℕ) where
    passed : (size : ℕ) → sizes.IsPassed p (length cs) limit way.skips size → IsPassed way limit (formula h) cs size
    passed size h' = elim h' [
      | inl q ↦ IsPassed.none_covers q.0 (none_covers (formula h) cs p (λ s. (told h whole cs s).0) (λ s. (told h whole cs s).1) size q.1)
      | inr q ↦ IsPassed.skipped q.0 q.1
    ]

    pub are_passed : (size : ℕ) → sizes.ArePassed p (length cs) limit way.skips 1 size → ArePassed way limit (formula h) cs size
    are_passed size f v from below = passed v (f v from below)

    pub refused_at : (last size : ℕ) → way.greatest ≡ last → sizes.HasTooMany p (length cs) limit way.skips 1 last size → IsRefusedAt way limit (formula h) cs size
    refused_at last size is q = record {
      in_range = (q.in_range.0, subst (λ (n : ℕ). size ≤ n) (sym is) q.in_range.1);
      many = q.many;
      stops = q.stops;
      least = are_passed size q.before;
    }

    pub least_is : (last size : ℕ) (places : List ℕ) → way.greatest ≡ last → sizes.IsLeast p (length cs) limit way.skips 1 last size places → IsLeastCover way limit (formula h) cs (pick cs places)
    least_is last size places is q =
        let member = (first_some p (place_sets (length cs) size) places q.first_one).0 in
        let sub = ((subsets_are size (range_with_len 0 (length cs))).exact places).0 member in
        let long : size ≡ length (pick cs places) = sym (length-map places (λ k. get_or cs k []) ∙ sub.1) in
        record {
          in_range = (subst (λ (n : ℕ). 1 ≤ n) long q.in_range.0, subst (λ (n : ℕ). n ≤ way.greatest) long (subst (λ (n : ℕ). size ≤ n) (sym is) q.in_range.1));
          few = subst (λ (n : ℕ). choose (length cs) n ≤ limit) long q.few;
          first = subst (λ (n : ℕ). IsFirstCovering (formula h) cs (subsets n cs) (pick cs places)) long (first_covers (formula h) cs p (λ s. (told h whole cs s).0) (λ s. (told h whole cs s).1) size places q.first_one);
          least = subst (λ (n : ℕ). ArePassed way limit (formula h) cs n) long (are_passed size q.least);
        }
