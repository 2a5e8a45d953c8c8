-- What a search among places says of sets of clauses.
use Rattle.std.proofs.Common.{◌≡◌, ◌≤◌, ◌++◌, ℕ, Bool, true, false, List, [], ◌∷◌, Some, None, if◌then◌else◌, map, length, get_or, refl, sym, ap, subst, ◌∙◌, inl, inr, arith}
use Rattle.std.proofs.lemmas.Bool.{false≢true}
use Rattle.std.proofs.lemmas.List.{length-map, map-append}
use Rattle.std.specs.List.{range_with_len}
use Rattle.kp_base.specs.declared.lit.Lit.{Lit}
use Rattle.kp_base.specs.declared.ground.Initial.{Initial}
use Rattle.kp_base.specs.Lists.{Member}
use Rattle.kp_base.specs.Covering.{AreTagsOfClauses, AllMeet}
use Rattle.kp_base.proofs.Lists.{map_member}
use Rattle.kp_cover_subsets.specs.Subsets.{subsets, place_sets, first_that, choose}
use Rattle.kp_cover_subsets.specs.Sizes as sizes
use Rattle.kp_cover_subsets.proofs.Public.{subsets_are, first_none, first_some}
use Rattle.kp_cover.specs.Covering.{pick, IsCover, TellsCovers}
use Rattle.kp_cover.proofs.Public.{cov_once}
use Rattle.kp_width.specs.Rows.{NoneCovers, IsFirstCover, AreSizesPassed, HasLeastCover, HasTooManySets}
use Rattle.kp_width.proofs.Places.{sets_at}

-- the list is split at the first element that passes
split : (p : List ℕ → Bool) (xs : List (List ℕ)) (x : List ℕ) → first_that p xs ≡ Some x → (earlier : List (List ℕ)) × (later : List (List ℕ)) × (xs ≡ earlier ++ x ∷ later) × ((y : List ℕ) → Member earlier y → p y ≡ false)
split p [] x h = absurd (cc h)
split p (y ∷ ys) x h = go (λ e. split p ys x e) (p y) refl h
  where
    go : (first_that p ys ≡ Some x → (earlier : List (List ℕ)) × (later : List (List ℕ)) × (ys ≡ earlier ++ x ∷ later) × ((z : List ℕ) → Member earlier z → p z ≡ false)) → (b : Bool) → p y ≡ b → (if b then Some y else first_that p ys) ≡ Some x → (earlier : List (List ℕ)) × (later : List (List ℕ)) × (y ∷ ys ≡ earlier ++ x ∷ later) × ((z : List ℕ) → Member earlier z → p z ≡ false)
    go rest true is e = let same : y ≡ x = cc e in ([], ys, ap (λ z. z ∷ ys) same, λ z m. absurd m)
    go rest false is e =
        let r = rest e in
        (y ∷ r.0, r.1, ap (λ zs. y ∷ zs) r.2, λ z m. elim m [ inl same ↦ subst (λ w. p w ≡ false) same is | inr later ↦ r.3 z later ])

module _ (i : Initial) (cs : List (List Lit)) (p : List ℕ → Bool) (tells : TellsCovers i cs p) where
  -- places that don't pass are those of a set that doesn't cover
  no_cover : (places : List ℕ) (tags : List (List Lit)) → p places ≡ false → IsCover i cs (pick cs places) tags → ⊥
  no_cover places tags fails c = false≢true (sym fails ∙ (tells places).1 (tags, c))

  none_at : (sets : List (List ℕ)) → ((s : List ℕ) → Member sets s → p s ≡ false) → NoneCovers i cs (map (pick cs) sets)
  none_at sets fail set tags m c =
      let q = map_member (pick cs) sets set m in
      no_cover q.0 tags (fail q.0 q.1) (subst (λ (z : List (List Lit)). IsCover i cs z tags) (sym q.2) c)

  none_covers : (size : ℕ) → first_that p (place_sets (length cs) size) ≡ None → NoneCovers i cs (subsets size cs)
  none_covers size h = subst (NoneCovers i cs) (sym (sets_at cs size)) (none_at (place_sets (length cs) size) (first_none p (place_sets (length cs) size) h))

  -- the tags of places that pass cover
  tags_cover : (places : List ℕ) (tags : List (List Lit)) → p places ≡ true → AreTagsOfClauses i (pick cs places) tags → IsCover i cs (pick cs places) tags
  tags_cover places tags passes are =
      let found = (tells places).0 passes in
      record { are = are; cover = subst (λ (ts : List (List Lit)). AllMeet i ts cs) (cov_once i i (pick cs places) found.0 tags (λ s. refl) found.1.are are) found.1.cover }

  first_covers : (size : ℕ) (places : List ℕ) (tags : List (List Lit)) → first_that p (place_sets (length cs) size) ≡ Some places → AreTagsOfClauses i (pick cs places) tags → IsFirstCover i cs (subsets size cs) (pick cs places) tags
  first_covers size places tags h are =
      let s = split p (place_sets (length cs) size) places h in
      record {
        earlier = map (pick cs) s.0;
        later = map (pick cs) s.1;
        among = sets_at cs size ∙ (ap (map (pick cs)) s.2 ∙ map-append (pick cs) s.0 (places ∷ s.1));
        covers = tags_cover places tags (first_some p (place_sets (length cs) size) places h).1 are;
        none_earlier = none_at s.0 s.3;
      }

  module _ (limit : ℕ) where
    pub are_passed : (size : ℕ) → sizes.ArePassed p (length cs) limit false 0 size → AreSizesPassed limit i cs size
    are_passed size h = record {
      few = λ v below. elim (h v (omega arith) below) [ inl q ↦ q.0 | inr q ↦ absurd (false≢true q.1) ];
      none_covers = λ v below. elim (h v (omega arith) below) [ inl q ↦ none_covers v q.1 | inr q ↦ absurd (false≢true q.1) ];
    }

    pub too_many : (bound size : ℕ) → sizes.HasTooMany p (length cs) limit false 0 bound size → HasTooManySets limit bound i cs size
    too_many bound size h = record { in_bound = h.in_range.1; many = h.many; passed = are_passed size h.before }

    pub least_is : (bound size : ℕ) (places : List ℕ) (tags : List (List Lit)) → sizes.IsLeast p (length cs) limit false 0 bound size places → AreTagsOfClauses i (pick cs places) tags → HasLeastCover limit bound i cs (pick cs places) tags
    least_is bound size places tags l are =
        let member = (first_some p (place_sets (length cs) size) places l.first_one).0 in
        let sub = ((subsets_are size (range_with_len 0 (length cs))).exact places).0 member in
        let long : size ≡ length (pick cs places) = sym (length-map places (λ k. get_or cs k []) ∙ sub.1) in
        record {
          in_bound = omega (arith, long, l.in_range.1);
          few = subst (λ (m : ℕ). choose (length cs) m ≤ limit) long l.few;
          first = subst (λ (m : ℕ). IsFirstCover i cs (subsets m cs) (pick cs places) tags) long (first_covers size places tags l.first_one are);
          passed = subst (AreSizesPassed limit i cs) long (are_passed size l.least);
        }
