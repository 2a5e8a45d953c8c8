-- What is found under types: exactly the objects of some types, in ascending order.
use Rattle.std.proofs.Common.{◌≡◌, ◌+◌, ◌<◌, ◌≤◌, ℕ, zero, suc, Bool, true, false, ◌&&◌, if◌then◌else◌, cond, List, [], ◌∷◌, map, filter, flat_map, AllPairs, IsPermutation, IsSorted, refl, sym, ap, ap₂, ◌∙◌, subst, inl, inr, arith, eqb}
use Rattle.std.specs.List.{list_any, dedup}
use Rattle.std.specs.Ordering.{nat_cmp}
use Rattle.std.proofs.lemmas.Bool.{and_parts, and_from, or_cases, or_left, both_ways}
use Rattle.std.proofs.lemmas.Map.Keys.{IsStrictlyIncreasing-dedup}
use Rattle.std.proofs.lemmas.List.Kept.{AllPairs-from_increasing, Contains-dedup_nat, Contains-from_dedup}
use Rattle.std.proofs.lemmas.List.Sorted.{Contains-permutation, IsPermutation-sym}
use Rattle.std.proofs.lemmas.Option.{slice_get_within, get_or_from_slice_get}
use Rattle.kp_tree_grammar.specs.declared.tree.Word.{Word}
use Rattle.kp_tree_grammar.specs.Trees.{Typed, Domain, Problem}
use Rattle.kp_base.specs.Lists.{Member}
use Rattle.kp_base.proofs.Lists.{number_at, contains_member, member_contains, member_flat_map, member_filter, same_member, any_member, any_from, bool_same, same-true, same-refl, member_map, map_member, flat_member, filter_member}
use Rattle.kp_names_semantics.specs.Names.{Name, same, is_among}
use Rattle.kp_names_semantics.specs.Types.{object, declared, types_of, is_below, object_lines, objects, is_of_type}
use Rattle.kp_names_semantics.specs.Numbering.{index_of}
use Rattle.kp_names_semantics.proofs.Public.{member_is_among, AreDistinctNames, distinct_are_distinct}
use Rattle.kp_names_declared.specs.Steps.{any_among, has_type, AreBelow, under, lines_under, range_of, IsRowOf}
use Rattle.kp_names_declared.proofs.Gathering.{among_objects}
use Rattle.kp_names_declared.proofs.NamesUnderTypes.{put_by, puts_it}
use Rattle.kp_names_declared.proofs.TypesBelow.{written, reached_type, there_type}

-- ---- lists

map_alike : {X Y : Type 0} (f g : X → Y) (xs : List X) → ((x : X) → Member xs x → f x ≡ g x) → map f xs ≡ map g xs
map_alike f g [] h = refl
map_alike f g (x ∷ xs) h = ap₂ (λ a b. a ∷ b) (h x (inl refl)) (map_alike f g xs (λ y m. h y (inr m)))

-- ---- numbers that rise

-- each number is below all later ones
abbrev Rises : List ℕ → Type 0
Rises [] = Unit {0}
Rises (x ∷ xs) = ((y : ℕ) → Member xs y → x < y) × Rises xs

rises_from_pairs : (xs : List ℕ) → AllPairs (λ x y. x < y) xs → Rises xs
rises_from_pairs [] h = tt
rises_from_pairs (x ∷ xs) h = (head, rises_from_pairs xs (λ i j d lt within. h (suc i) (suc j) d (omega (arith, lt)) (omega (arith, within))))
  where
    head : (y : ℕ) → Member xs y → x < y
    head y m =
        let n = number_at xs y m in
        subst (λ z. x < z) (get_or_from_slice_get xs n.0 y 0 n.1) (h zero (suc n.0) 0 (omega arith) (let lt = slice_get_within xs n.0 y n.1 in omega (arith, lt)))

-- the numbers of marks that are set, counted on
abbrev marked_from : ℕ → List Bool → List ℕ
marked_from n [] = []
marked_from n (m ∷ ms) = cond m (n ∷ marked_from (n + 1) ms) (marked_from (n + 1) ms)

marks_rise : (n : ℕ) (ms : List Bool) → ((y : ℕ) → Member (marked_from n ms) y → n ≤ y) × Rises (marked_from n ms)
marks_rise n [] = (λ y m. absurd m, tt)
marks_rise n (m ∷ ms) = by m (marks_rise (n + 1) ms)
  where
    by : (b : Bool) → ((y : ℕ) → Member (marked_from (n + 1) ms) y → n + 1 ≤ y) × Rises (marked_from (n + 1) ms)
        → ((y : ℕ) → Member (cond b (n ∷ marked_from (n + 1) ms) (marked_from (n + 1) ms)) y → n ≤ y) × Rises (cond b (n ∷ marked_from (n + 1) ms) (marked_from (n + 1) ms))
    by true rest = (λ y m. elim m [ inl e ↦ omega (arith, e) | inr r ↦ let le = rest.0 y r in omega (arith, le) ], (λ y m. (let le = rest.0 y m in omega (arith, le)), rest.1))
    by false rest = (λ y m. let le = rest.0 y m in omega (arith, le), rest.1)

-- two rising lists of the same numbers are one
rising_same : (xs ys : List ℕ) → Rises xs → Rises ys → ((n : ℕ) → Member xs n → Member ys n) → ((n : ℕ) → Member ys n → Member xs n) → xs ≡ ys
rising_same [] [] r s f g = refl
rising_same [] (y ∷ ys) r s f g = absurd (g y (inl refl))
rising_same (x ∷ xs) [] r s f g = absurd (f x (inl refl))
rising_same (x ∷ xs) (y ∷ ys) r s f g = ap₂ (λ a b. a ∷ b) first (rising_same xs ys r.1 s.1 there back)
  where
    first : x ≡ y
    first = elim (f x (inl refl)) [
      | inl e ↦ sym e
      | inr m ↦ elim (g y (inl refl)) [ inl e ↦ e | inr n ↦ absurd (let a = r.0 y n in let b = s.0 x m in omega (arith, a, b)) ]
    ]

    there : (n : ℕ) → Member xs n → Member ys n
    there n m = elim (f n (inr m)) [ inl e ↦ absurd (let a = r.0 n m in omega (arith, a, e, first)) | inr k ↦ k ]

    back : (n : ℕ) → Member ys n → Member xs n
    back n m = elim (g n (inr m)) [ inl e ↦ absurd (let a = s.0 n m in omega (arith, a, e, first)) | inr k ↦ k ]

add_suc : (n i : ℕ) → n + suc i ≡ (n + 1) + i
add_suc n i = omega arith

marks_number : (p : Name → Bool) (os : List Name) → AreDistinctNames os → (n : ℕ) → marked_from n (map p os) ≡ map (λ o. n + index_of os o) (filter p os)
marks_number p [] d n = refl
marks_number p (o ∷ os) d n = by (p o) (marks_number p os d.1 (n + 1) ∙ map_alike (λ x. (n + 1) + index_of os x) (λ x. n + index_of (o ∷ os) x) (filter p os) later)
  where
    first : n ≡ n + index_of (o ∷ os) o
    first = sym (ap (λ b. n + (if b then 0 else suc (index_of os o))) (same-refl o) ∙ omega arith)

    later : (x : Name) → Member (filter p os) x → (n + 1) + index_of os x ≡ n + index_of (o ∷ os) x
    later x m = sym (ap (λ b. n + (if b then 0 else suc (index_of os x))) (apart (same o x) refl) ∙ add_suc n (index_of os x))
      where
        apart : (b : Bool) → same o x ≡ b → same o x ≡ false
        apart false e = e
        apart true e = absurd (both_ways (is_among os o) d.0 (subst (λ z. is_among os z ≡ true) (sym (same-true o x e)) (member_is_among os x (filter_member p os x m).0)))

    by : (b : Bool) → marked_from (n + 1) (map p os) ≡ map (λ x. n + index_of (o ∷ os) x) (filter p os) → cond b (n ∷ marked_from (n + 1) (map p os)) (marked_from (n + 1) (map p os)) ≡ map (λ x. n + index_of (o ∷ os) x) (cond b (o ∷ filter p os) (filter p os))
    by true rest = ap₂ (λ a b. a ∷ b) first rest
    by false rest = rest

-- ---- together

module _ (d : Domain Word) (p : Problem Word) (ts names : List Name) (below : AreBelow d.kinds ts names) where
  has_either : (o : Name) → list_any (λ x. same x.word.text o && has_type names x) (object_lines d p) ≡ list_any (is_of_type d p o) ts
  has_either o = bool_same (list_any (λ x. same x.word.text o && has_type names x) (object_lines d p)) (list_any (is_of_type d p o) ts) there back
    where
      there : list_any (λ x. same x.word.text o && has_type names x) (object_lines d p) ≡ true → list_any (is_of_type d p o) ts ≡ true
      there h =
          let x = any_member (λ x. same x.word.text o && has_type names x) (object_lines d p) h in
          let parts = and_parts (same x.0.word.text o) (has_type names x.0) x.2 in
          let k = there_type names x.0 parts.1 in
          let t = any_member (is_below d.kinds k.0) ts (sym (below.each k.0) ∙ k.2) in
          any_from (is_of_type d p o) ts t.0 t.1
          (any_from (λ y. same y.word.text o && list_any (λ j. is_below d.kinds j t.0) (types_of y)) (object_lines d p) x.0 x.1
          (and_from (same x.0.word.text o) (list_any (λ j. is_below d.kinds j t.0) (types_of x.0)) parts.0
          (any_from (λ j. is_below d.kinds j t.0) (types_of x.0) k.0 k.1 t.2)))

      back : list_any (is_of_type d p o) ts ≡ true → list_any (λ x. same x.word.text o && has_type names x) (object_lines d p) ≡ true
      back h =
          let t = any_member (is_of_type d p o) ts h in
          let x = any_member (λ y. same y.word.text o && list_any (λ j. is_below d.kinds j t.0) (types_of y)) (object_lines d p) t.2 in
          let parts = and_parts (same x.0.word.text o) (list_any (λ j. is_below d.kinds j t.0) (types_of x.0)) x.2 in
          let k = any_member (λ j. is_below d.kinds j t.0) (types_of x.0) parts.1 in
          let reached = below.each k.0 ∙ any_from (is_below d.kinds k.0) ts t.0 t.1 k.2 in
          any_from (λ y. same y.word.text o && has_type names y) (object_lines d p) x.0 x.1
          (and_from (same x.0.word.text o) (has_type names x.0) parts.0 (reached_type names x.0 k.0 k.1 reached))

  -- the objects of the types, where every type is below them
  pub all_objects : is_among names object ≡ true → (o : Name) → Member (objects d p) o → list_any (is_of_type d p o) ts ≡ true
  all_objects all o m =
      let declared_there : Member (declared (object_lines d p)) o = same_member same same-true (declared (object_lines d p)) o (sym (among_objects (declared (object_lines d p)) o) ∙ member_is_among (objects d p) o m) in
      let x = map_member (λ (x : Typed Word). x.word.text) (object_lines d p) o declared_there in
      sym (has_either o)
      ∙ any_from (λ y. same y.word.text o && has_type names y) (object_lines d p) x.0 x.1
      (and_from (same x.0.word.text o) (has_type names x.0) (subst (λ z. same z o ≡ true) (sym x.2) (same-refl o)) (or_left (is_among names object) (any_among names x.0.kinds) all))

  -- what stands under the types below are the objects of the types
  under_there : (o : Name) → Member (flat_map (under (lines_under (object_lines d p))) names) o → Member (objects d p) o × (list_any (is_of_type d p o) ts ≡ true)
  under_there o m =
      let k = flat_member (under (lines_under (object_lines d p))) names o m in
      let x = put_by k.0 o (object_lines d p) (member_is_among (under (lines_under (object_lines d p)) k.0) o k.2) in
      let reached = reached_type names x.0 k.0 (written x.0.kinds k.0 x.2) (or_left (is_among names k.0) (is_among names object) (member_is_among names k.0 k.1)) in
      let declared_there : Member (declared (object_lines d p)) o = subst (Member (declared (object_lines d p))) x.3 (member_map (λ (x : Typed Word). x.word.text) (object_lines d p) x.0 x.1) in (
        same_member same same-true (objects d p) o (among_objects (declared (object_lines d p)) o ∙ member_is_among (declared (object_lines d p)) o declared_there),
        sym (has_either o)
            ∙ any_from (λ y. same y.word.text o && has_type names y) (object_lines d p) x.0 x.1 (and_from (same x.0.word.text o) (has_type names x.0) (subst (λ z. same z o ≡ true) (sym x.3) (same-refl o)) reached),
      )

  under_back : is_among names object ≡ false → (o : Name) → list_any (is_of_type d p o) ts ≡ true → Member (flat_map (under (lines_under (object_lines d p))) names) o
  under_back not_all o h =
      let x = any_member (λ y. same y.word.text o && has_type names y) (object_lines d p) (has_either o ∙ h) in
      let parts = and_parts (same x.0.word.text o) (has_type names x.0) x.2 in
      elim (or_cases (is_among names object) (any_among names x.0.kinds) parts.1) [
        | inl e ↦ absurd (both_ways (is_among names object) not_all e)
        | inr e ↦
            let w = any_member (λ w. is_among names w.text) x.0.kinds e in
            let put = puts_it (object_lines d p) x.0 w.0.text x.1 (member_map (λ w. w.text) x.0.kinds w.0 w.1) in
            member_flat_map (under (lines_under (object_lines d p))) names w.0.text o (same_member same same-true names w.0.text w.2)
            (same_member same same-true (under (lines_under (object_lines d p)) w.0.text) o (subst (λ z. is_among (under (lines_under (object_lines d p)) w.0.text) z ≡ true) (same-true x.0.word.text o parts.0) put))
      ]

  -- a rising row of the numbers of some objects, which are those of the types
  row_is : (found : List Name) (row : List ℕ) → ((o : Name) → Member found o → Member (objects d p) o × (list_any (is_of_type d p o) ts ≡ true))
      → ((o : Name) → Member (objects d p) o → list_any (is_of_type d p o) ts ≡ true → Member found o)
      → IsRowOf (map (index_of (objects d p)) found) row → row ≡ range_of d p ts
  row_is found row there back is =
      rising_same row (range_of d p ts) (rises_from_pairs row is.rising) (subst Rises marks (marks_rise 0 (map q os)).1)
      (λ n m.
      let o = map_member (index_of os) found n (is.there n m) in
      let both = there o.0 o.1 in
      subst (Member (range_of d p ts)) o.2 (member_map (index_of os) (filter q os) o.0 (member_filter q os o.0 both.0 both.1)))
      (λ n m.
      let o = map_member (index_of os) (filter q os) n m in
      let both = filter_member q os o.0 o.1 in
      is.back n (subst (Member (map (index_of os) found)) o.2 (member_map (index_of os) found o.0 (back o.0 both.0 both.1))))
    where
      os : List Name
      os = objects d p

      q : Name → Bool
      q o = list_any (is_of_type d p o) ts

      marks : marked_from 0 (map q os) ≡ range_of d p ts
      marks =
          marks_number q os (distinct_are_distinct (declared (object_lines d p))) 0
          ∙ map_alike (λ o. 0 + index_of os o) (index_of os) (filter q os) (λ o m. omega arith)

  pub row_of_all : is_among names object ≡ true → (row : List ℕ) → IsRowOf (map (index_of (objects d p)) (objects d p)) row → row ≡ range_of d p ts
  row_of_all all row is = row_is (objects d p) row (λ o m. (m, all_objects all o m)) (λ o m h. m) is

  pub row_of_found : is_among names object ≡ false → (found : List Name) (row : List ℕ) → ((o : Name) → Member found o → Member (flat_map (under (lines_under (object_lines d p))) names) o)
      → ((o : Name) → Member (flat_map (under (lines_under (object_lines d p))) names) o → Member found o) → IsRowOf (map (index_of (objects d p)) found) row → row ≡ range_of d p ts
  row_of_found not_all found row f g is = row_is found row (λ o m. under_there o (f o m)) (λ o m h. g o (under_back not_all o h)) is

-- sorted, with repeats taken out
pub sorted_row : (numbers sorted : List ℕ) → IsPermutation numbers sorted → IsSorted nat_cmp sorted → IsRowOf numbers (dedup eqb sorted)
sorted_row numbers sorted moved up = record {
  rising = AllPairs-from_increasing (dedup eqb sorted) (IsStrictlyIncreasing-dedup sorted up);
  there = λ n m. contains_member numbers n (Contains-permutation sorted numbers n (IsPermutation-sym numbers sorted moved) (Contains-from_dedup eqb sorted n (member_contains (dedup eqb sorted) n m)));
  back = λ n m. contains_member (dedup eqb sorted) n (Contains-dedup_nat sorted n (Contains-permutation numbers sorted n moved (member_contains numbers n m)));
}
