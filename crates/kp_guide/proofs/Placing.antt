-- Facts get their places, and rules on them.
use Rattle.std.proofs.Common.{◌≡◌, ◌<◌, ◌≤◌, ◌+◌, ℕ, Bool, true, false, if◌then◌else◌, List, [], ◌∷◌, ◌++◌, Some, length, map, take, slice_get, slice_index_or, nat_eq, nat_lt, length-append, arith, refl, sym, ap, ap₂, subst, ◌∙◌, inl, inr}
use Rattle.std.specs.List.{list_any, list_all, IsDistinct}
use Rattle.std.proofs.lemmas.Bool.{and_parts, and_from, lt-ltb, ltb-true, eqb-true, cases_lt}
use Rattle.std.proofs.lemmas.List.{append-nil, append_assoc, map-append, get_or_append_left}
use Rattle.std.proofs.lemmas.List.Folds.{list_all-append}
use Rattle.std.proofs.lemmas.Map.Steps.{length-le_from_distinct_below}
use Rattle.std.proofs.lemmas.Option.{same_Some, slice_get-get_or}
use Rattle.kp_base.specs.Lists.{Member}
use Rattle.kp_base.proofs.Lists.{all_from, all_member, append_member, member_left, member_right, member_at, any_member}
use Rattle.kp_classic.specs.Fits.{are_below}
use Rattle.kp_guide.specs.declared.rule.Rule.{Rule}
use Rattle.kp_guide.specs.Placing.{ArePlaces, AddThere, ArePlacedTo, Grows, HaveAll}
use Rattle.kp_guide.specs.Relaxed.{at, read, AreRead, HasPlaced}
use Rattle.kp_guide.specs.CostTables.{fits_rule}
use Rattle.kp_guide.proofs.Noting.{taken_on}

-- ---- lists that have more behind them

below_both : (n : ℕ) (xs ys : List ℕ) → are_below n xs ≡ true → are_below n ys ≡ true → are_below n (xs ++ ys) ≡ true
below_both n xs ys a b = list_all-append (λ f. nat_lt f n) xs ys ∙ and_from (are_below n xs) (are_below n ys) a b

pub longer : (old new more : List ℕ) → new ≡ old ++ more → length old ≤ length new
longer old new more e = let l = ap length e ∙ length-append old more in omega (arith, l)

pub below_more : (n m : ℕ) (xs : List ℕ) → n ≤ m → are_below n xs ≡ true → are_below m xs ≡ true
below_more n m xs le h = all_from (λ f. nat_lt f m) xs (λ x there. let l = ltb-true x n (all_member (λ f. nat_lt f n) xs x there h) in lt-ltb x m (omega (arith, l, le)))

-- the facts at places stay
same_at : (old new more : List ℕ) (i : ℕ) → new ≡ old ++ more → i < length old → at new i ≡ at old i
same_at old new more i e lt = ap (λ xs. at xs i) e ∙ get_or_append_left old more 0 i lt

pub same_map : (old new more ns : List ℕ) → new ≡ old ++ more → are_below (length old) ns ≡ true → map (at new) ns ≡ map (at old) ns
same_map old new more [] e h = refl
same_map old new more (i ∷ ns) e h = let parts = and_parts (nat_lt i (length old)) (are_below (length old) ns) h in ap₂ (λ x xs. x ∷ xs) (same_at old new more i e (ltb-true i (length old) parts.0)) (same_map old new more ns e parts.1)

-- ---- places of facts

pub none_placed : (old : List ℕ) → ArePlaces [] old old []
none_placed old = record { more = []; grows = sym (append-nil old); inside = refl; are = refl; below = λ n h g. h }

pub one_placed : (old new : List ℕ) (f i : ℕ) → new ≡ (if list_any (nat_eq f) old then old else old ++ f ∷ []) → i < length new → (k : ℕ) × (slice_get new i ≡ Some k) × (nat_eq f k ≡ true) → ArePlaces (f ∷ []) old new (i ∷ [])
one_placed old new f i is lt (k, there, same) = by (list_any (nat_eq f) old) is
  where
    fact : at new i ≡ f
    fact = same_Some (at new i) f (sym (slice_get-get_or new i 0 lt) ∙ (there ∙ ap Some (sym (eqb-true f k same))))

    by : (b : Bool) → new ≡ (if b then old else old ++ f ∷ []) → ArePlaces (f ∷ []) old new (i ∷ [])
    by true e = record {
      more = [];
      grows = e ∙ sym (append-nil old);
      inside = and_from (nat_lt i (length new)) true (lt-ltb i (length new) lt) refl;
      are = ap (λ x. x ∷ []) fact;
      below = λ n h g. subst (λ xs. are_below n xs ≡ true) (sym e) h;
    }
    by false e = record {
      more = f ∷ [];
      grows = e;
      inside = and_from (nat_lt i (length new)) true (lt-ltb i (length new) lt) refl;
      are = ap (λ x. x ∷ []) fact;
      below = λ n h g. subst (λ xs. are_below n xs ≡ true) (sym e) (below_both n old (f ∷ []) h g);
    }

places_more : (fs gs old mid new ns ms : List ℕ) → ArePlaces fs old mid ns → ArePlaces gs mid new ms → ArePlaces (fs ++ gs) old new (ns ++ ms)
places_more fs gs old mid new ns ms a b = record {
  more = a.more ++ b.more;
  grows = b.grows ∙ (ap (λ xs. xs ++ b.more) a.grows ∙ append_assoc old a.more b.more);
  inside = below_both (length new) ns ms (below_more (length mid) (length new) ns (longer mid new b.more b.grows) a.inside) b.inside;
  are = map-append (at new) ns ms ∙ ap₂ (λ xs ys. xs ++ ys) (same_map mid new b.more ns b.grows a.inside ∙ a.are) b.are;
  below = λ n h g.
      let parts = and_parts (are_below n fs) (are_below n gs) (sym (list_all-append (λ f. nat_lt f n) fs gs) ∙ g) in
      b.below n (a.below n h parts.0) parts.1;
}

-- the next of some facts
pub places_on : (fs : List ℕ) (j : ℕ) (old mid new ns : List ℕ) (i : ℕ) → j < length fs → ArePlaces (take j fs) old mid ns → ArePlaces (slice_index_or fs j 0 ∷ []) mid new (i ∷ []) → ArePlaces (take (j + 1) fs) old new (ns ++ i ∷ [])
places_on fs j old mid new ns i lt a b = subst (λ gs. ArePlaces gs old new (ns ++ i ∷ [])) (sym (taken_on fs j (slice_index_or fs j 0) (slice_get-get_or fs j 0 lt))) (places_more (take j fs) (slice_index_or fs j 0 ∷ []) old mid new ns (i ∷ []) a b)

-- ---- rules on places

module _ (all : List Rule) where
  pub grows_none : (facts : List ℕ) (rules : List Rule) → AreRead all facts rules → Grows all facts rules facts rules
  grows_none facts rules r = record { more = []; grows = sym (append-nil facts); read = r; keeps = λ i q h. h; below = λ n h g. h }

  pub grows_on : (f g h : List ℕ) (p q r : List Rule) → Grows all f p g q → Grows all g q h r → Grows all f p h r
  grows_on f g h p q r a b = record {
    more = a.more ++ b.more;
    grows = b.grows ∙ (ap (λ xs. xs ++ b.more) a.grows ∙ append_assoc f a.more b.more);
    read = b.read;
    keeps = λ i s k. b.keeps i s (a.keeps i s k);
    below = λ n k l. b.below n (a.below n k l) l;
  }

  -- a rule is placed
  module _ (r : Rule) (k : ℕ) (is : slice_get all k ≡ Some r) (place : ℕ) (old new needs : List ℕ) (rules : List Rule) (sound : AreRead all old rules)
      (inside : place < length old) (adds : r.fact ≡ at old place) (p : ArePlaces r.needs old new needs) where
    abbrev one : Rule
    one = record { fact = place; needs = needs }

    abbrev rules' : List Rule
    rules' = rules ++ one ∷ []

    stays : (q : Rule) → Member rules q → fits_rule (length old) q ≡ true
    stays q m = all_member (fits_rule (length old)) rules q m sound.inside

    le : length old ≤ length new
    le = longer old new p.more p.grows

    still : (q : Rule) → fits_rule (length old) q ≡ true → fits_rule (length new) q ≡ true
    still q h =
        let parts = and_parts (nat_lt q.fact (length old)) (are_below (length old) q.needs) h in
        let lt = ltb-true q.fact (length old) parts.0 in
        and_from (nat_lt q.fact (length new)) (are_below (length new) q.needs) (lt-ltb q.fact (length new) (omega (arith, lt, le))) (below_more (length old) (length new) q.needs le parts.1)

    one_fits : fits_rule (length new) one ≡ true
    one_fits = and_from (nat_lt place (length new)) (are_below (length new) needs) (lt-ltb place (length new) (omega (arith, inside, le))) p.inside

    same_read : (q : Rule) → fits_rule (length old) q ≡ true → read new q ≡ read old q
    same_read q h =
        let parts = and_parts (nat_lt q.fact (length old)) (are_below (length old) q.needs) h in
        ap₂ (λ f ns. record { fact = f; needs = ns }) (same_at old new p.more q.fact p.grows (ltb-true q.fact (length old) parts.0)) (same_map old new p.more q.needs p.grows parts.1)

    one_read : read new one ≡ r
    one_read = ap₂ (λ f ns. record { fact = f; needs = ns }) (same_at old new p.more place p.grows inside ∙ sym adds) p.are

    each_fits : (q : Rule) → Member rules' q → fits_rule (length new) q ≡ true
    each_fits q m = elim (append_member rules (one ∷ []) q m) [
      | inl a ↦ still q (stays q a)
      | inr b ↦ elim b [ inl e ↦ subst (λ z. fits_rule (length new) z ≡ true) e one_fits | inr z ↦ absurd z ]
    ]

    each_known : (q : Rule) → Member rules' q → Member all (read new q)
    each_known q m = elim (append_member rules (one ∷ []) q m) [
      | inl a ↦ subst (Member all) (sym (same_read q (stays q a))) (sound.known q a)
      | inr b ↦ elim b [ inl e ↦ subst (λ z. Member all (read new z)) e (subst (Member all) (sym one_read) (member_at all k r is)) | inr z ↦ absurd z ]
    ]

    pub rule_grows : Grows all old rules new rules'
    rule_grows = record {
      more = p.more;
      grows = p.grows;
      read = record { inside = all_from (fits_rule (length new)) rules' each_fits; known = each_known };
      keeps = λ i q h. record {
        placed = h.placed;
        there = member_left rules (one ∷ []) h.placed h.there;
        fact_is = h.fact_is;
        needs_are = same_map old new p.more h.placed.needs p.grows (and_parts (nat_lt h.placed.fact (length old)) (are_below (length old) h.placed.needs) (stays h.placed h.there)).1 ∙ h.needs_are;
      };
      below = λ n h g. p.below n h (and_parts (nat_lt r.fact n) (are_below n r.needs) (all_member (fits_rule n) all r (member_at all k r is) g)).1;
    }

    pub rule_there : HaveAll all (k ∷ []) new rules' place
    rule_there j q m at_j = elim m [
      | inl e ↦
          let same : r ≡ q = same_Some r q (sym is ∙ subst (λ x. slice_get all x ≡ Some q) (sym e) at_j) in
          record { placed = one; there = member_right rules (one ∷ []) one (inl refl); fact_is = refl; needs_are = subst (λ z. map (at new) needs ≡ z.needs) same p.are }
      | inr z ↦ absurd z
    ]

  -- those rules can be placed whose fact is there
  pub adds_still : (numbers old new : List ℕ) (place : ℕ) (more : List ℕ) → new ≡ old ++ more → AddThere all numbers old place → AddThere all numbers new place
  adds_still numbers old new place more e a = let l = longer old new more e in let i = a.inside in record {
    inside = omega (arith, l, i);
    each = λ k m. let h = a.each k m in (h.0, h.1, h.2 ∙ sym (same_at old new more place e i));
  }

  pub adds_one : (numbers facts : List ℕ) (place k : ℕ) → Member numbers k → AddThere all numbers facts place → AddThere all (k ∷ []) facts place
  adds_one numbers facts place k there a = record { inside = a.inside; each = λ j m. elim m [ inl e ↦ a.each j (subst (Member numbers) e there) | inr z ↦ absurd z ] }

  -- the next of some numbers
  pub have_on : (numbers : List ℕ) (j place : ℕ) (old new : List ℕ) (rules more : List Rule) → j < length numbers → Grows all old rules new more → HaveAll all (take j numbers) old rules place → HaveAll all (slice_index_or numbers j 0 ∷ []) new more place → HaveAll all (take (j + 1) numbers) new more place
  have_on numbers j place old new rules more lt g a b k r m is = elim (append_member (take j numbers) (slice_index_or numbers j 0 ∷ []) k (subst (λ xs. Member xs k) (taken_on numbers j (slice_index_or numbers j 0) (slice_get-get_or numbers j 0 lt)) m)) [
    | inl h ↦ g.keeps place r (a k r h is)
    | inr h ↦ b k r h is
  ]

  -- ---- all rules for the facts so far

  pub nothing_placed : (facts : List ℕ) → ArePlacedTo all 0 facts []
  nothing_placed facts = record { read = record { inside = refl; known = λ q m. absurd m }; each = λ i r lt. absurd (omega (arith, lt)) }

  pub placed_on : (p : ℕ) (old new : List ℕ) (rules rules' : List Rule) → p < length old → Grows all old rules new rules' → ArePlacedTo all p old rules → ((r : Rule) → Member all r → r.fact ≡ at old p → HasPlaced new rules' p r) → ArePlacedTo all (p + 1) new rules'
  placed_on p old new rules rules' lt g a b = record {
    read = g.read;
    each = λ i r before within there is. elim (cases_lt i p) [
      | inl less ↦ g.keeps i r (a.each i r less (omega (arith, less, lt)) there (is ∙ same_at old new g.more i g.grows (omega (arith, less, lt))))
      | inr past ↦
          let e : i ≡ p = omega (arith, past, before) in
          subst (λ x. HasPlaced new rules' x r) (sym e) (b r there (is ∙ (ap (at new) e ∙ same_at old new g.more p g.grows lt)))
    ];
  }

  pub placed_all : (p : ℕ) (facts : List ℕ) (rules : List Rule) → length facts ≤ p → ArePlacedTo all p facts rules → ArePlacedTo all (length facts) facts rules
  placed_all p facts rules le a = record { read = a.read; each = λ i r lt within. a.each i r (omega (arith, lt, le)) within }

-- facts below n, each once, are no more than n
pub few_facts : (n : ℕ) (facts : List ℕ) → IsDistinct nat_eq facts → are_below n facts ≡ true → length facts ≤ n
few_facts n facts once below = length-le_from_distinct_below facts n once (λ q h. let m = any_member (nat_eq q) facts h in
    let l = ltb-true m.0 n (all_member (λ f. nat_lt f n) facts m.0 m.1 below) in
    let e = eqb-true q m.0 m.2 in omega (arith, e, l))
