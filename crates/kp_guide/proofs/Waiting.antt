-- Rules that wait, and what is left of that when one is tried.
use Rattle.std.proofs.Common.{◌≡◌, ◌<◌, ◌≤◌, ◌+◌, ◌⊎◌, ℕ, zero, suc, Bool, true, false, nat_lt, nat_le, nat_eq, List, [], ◌∷◌, ◌++◌, Some, length, set, take, drop, replicate, slice_get, slice_index_or, length-set, get_or-set_same, get_or-set_other, append-nil, arith, refl, sym, ap, subst, ◌∙◌, inl, inr}
use Rattle.std.specs.List.{list_any, list_all, range_with_len}
use Rattle.std.proofs.lemmas.Bool.{and_parts, cases_eq, cases_lt, cases_Bool, eqb-true, false≢true, lt-ltb, le-ltb, ltb-true, leb-true}
use Rattle.std.proofs.lemmas.Option.{same_Some, slice_get_within, slice_get-get_or}
use Rattle.std.proofs.lemmas.List.{get_or_past, get_or-replicate, length-replicate}
use Rattle.kp_base.specs.Lists.{Member, only_if}
use Rattle.kp_base.proofs.Lists.{append_member, member_left, member_right, member_at, number_at, all_member, same_member, range_there}
use Rattle.kp_base.proofs.Places.{places_more}
use Rattle.kp_classic.specs.Fits.{are_below}
use Rattle.kp_guide.specs.declared.rule.Rule.{Rule}
use Rattle.kp_guide.specs.CostTables.{value, joined, total, cost_by, are_costs, fits_rule, IsClosed, Lowers, Relaxes}
use Rattle.kp_guide.specs.Waiting.{row, unreached, count_at, AreCounts, CountsDown, waits_at, AreUsers, Waits, IsReady, IsWork, Tries, Rounds}
use Rattle.kp_guide.proofs.Joins.{joined_is}
use Rattle.kp_guide.proofs.Noting.{taken_on, all_pushed, some_passes, user_there, counts_met, counts_alike, counts_same}
use Rattle.kp_guide.proofs.Relaxing.{lowers_none, lowers_on, fallen, sum_less, here, elsewhere, total_same}

-- ---- rules that wait

pub waits_none : (counts : List ℕ) (waits : List Bool) (next : List ℕ) → Waits counts [] waits next waits next
waits_none counts waits next = record { long = refl; below = λ h. h; keeps = λ k h. h; all = λ k m none. absurd m; only = λ k h. inl h; listed = λ k h. inl h; stays = λ k m. m }

-- one that waits already, or lacks a need
pub waits_still : (counts : List ℕ) (k : ℕ) (waits : List Bool) (next : List ℕ) → (0 < count_at counts k) ⊎ (waits_at waits k ≡ true) → Waits counts (k ∷ []) waits next waits next
waits_still counts k waits next why = record {
  long = refl;
  below = λ h. h;
  keeps = λ j h. h;
  all = λ j m none. elim m [
    | inl e ↦ subst (λ x. waits_at waits x ≡ true) e (elim why [
      | inl more ↦ let same : count_at counts k ≡ count_at counts j = ap (count_at counts) e in absurd (omega (arith, more, same, none))
      | inr w ↦ w
    ])
    | inr n ↦ absurd n
  ];
  only = λ j h. inl h;
  listed = λ j h. inl h;
  stays = λ j m. m;
}

-- one that didn't
pub waits_now : (counts : List ℕ) (k : ℕ) (waits : List Bool) (next : List ℕ) → k < length waits → count_at counts k ≡ 0 → Waits counts (k ∷ []) waits next (set waits k true) (next ++ k ∷ [])
waits_now counts k waits next lt met = record {
  long = length-set waits k true;
  below = λ h. all_pushed (λ x. nat_lt x (length waits)) next k h (lt-ltb k (length waits) lt);
  keeps = λ j h. elim (cases_eq j k) [
    | inl e ↦ subst (λ x. waits_at (set waits k true) x ≡ true) (sym e) (get_or-set_same waits k true false lt)
    | inr ne ↦ get_or-set_other waits k j true false ne ∙ h
  ];
  all = λ j m none. elim m [ inl e ↦ subst (λ x. waits_at (set waits k true) x ≡ true) e (get_or-set_same waits k true false lt) | inr n ↦ absurd n ];
  only = λ j h. elim (cases_eq j k) [
    | inl e ↦ inr (ap (count_at counts) e ∙ met)
    | inr ne ↦ inl (sym (get_or-set_other waits k j true false ne) ∙ h)
  ];
  listed = λ j h. elim (cases_eq j k) [
    | inl e ↦ inr (member_right next (k ∷ []) j (inl (sym e)))
    | inr ne ↦ inl (sym (get_or-set_other waits k j true false ne) ∙ h)
  ];
  stays = λ j m. member_left next (k ∷ []) j m;
}

pub waits_more : (counts done : List ℕ) (k : ℕ) (w0 : List Bool) (x0 : List ℕ) (w : List Bool) (x : List ℕ) (w' : List Bool) (x' : List ℕ) → Waits counts done w0 x0 w x → Waits counts (k ∷ []) w x w' x' → Waits counts (done ++ k ∷ []) w0 x0 w' x'
waits_more counts done k w0 x0 w x w' x' a b = record {
  long = b.long ∙ a.long;
  below = λ h. subst (λ n. are_below n x' ≡ true) a.long (b.below (subst (λ n. are_below n x ≡ true) (sym a.long) (a.below h)));
  keeps = λ j h. b.keeps j (a.keeps j h);
  all = λ j m none. elim (append_member done (k ∷ []) j m) [ inl h ↦ b.keeps j (a.all j h none) | inr h ↦ b.all j h none ];
  only = λ j h. elim (b.only j h) [ inl g ↦ a.only j g | inr met ↦ inr met ];
  listed = λ j h. elim (b.listed j h) [
    | inl g ↦ elim (a.listed j g) [ inl f ↦ inl f | inr m ↦ inr (b.stays j m) ]
    | inr m ↦ inr m
  ];
  stays = λ j m. b.stays j (a.stays j m);
}

-- the next of some numbers
pub waits_on : (counts more : List ℕ) (i : ℕ) (w0 : List Bool) (x0 : List ℕ) (w : List Bool) (x : List ℕ) (w' : List Bool) (x' : List ℕ) → i < length more → Waits counts (take i more) w0 x0 w x → Waits counts (slice_index_or more i 0 ∷ []) w x w' x' → Waits counts (take (i + 1) more) w0 x0 w' x'
waits_on counts more i w0 x0 w x w' x' lt a b = subst (λ ks. Waits counts ks w0 x0 w' x') (sym (taken_on more i (slice_index_or more i 0) (slice_get-get_or more i 0 lt))) (waits_more counts (take i more) (slice_index_or more i 0) w0 x0 w x w' x' a b)

-- ---- a rule that lacks a need

value_low : (costs : List ℕ) (f : ℕ) → are_costs costs ≡ true → value costs f ≤ 1000000001
value_low [] f h = omega arith
value_low (c ∷ cs) zero h = leb-true c 1000000001 (and_parts (nat_le c 1000000001) (are_costs cs) h).0
value_low (c ∷ cs) (suc f) h = value_low cs f (and_parts (nat_le c 1000000001) (are_costs cs) h).1

-- facts cost none together where one of them has no cost
total_none : (costs fs : List ℕ) (f : ℕ) → Member fs f → 1000000000 < value costs f → 1000000000 < total costs fs
total_none costs [] f m high = absurd m
total_none costs (g ∷ gs) f m high = elim (joined_is (value costs g) (total costs gs)) [
  | inl j ↦
      let a = j.0 in
      let b = j.1 in
      elim m [
        | inl e ↦ let same : value costs g ≡ value costs f = ap (value costs) e in absurd (omega (arith, a, high, same))
        | inr r ↦ let rest = total_none costs gs f r high in absurd (omega (arith, b, rest))
      ]
  | inr j ↦ let e = j.1 in omega (arith, e)
]

-- it lowers no cost
lowers_no : (rules : List Rule) (costs counts : List ℕ) (k : ℕ) (r : Rule) → are_costs costs ≡ true → AreCounts rules (unreached costs) counts → slice_get rules k ≡ Some r → 0 < count_at counts k → value costs r.fact ≤ cost_by costs r
lowers_no rules costs counts k r in_range counted at more =
    let e = counted.each k r at in
    let f = some_passes (unreached costs) r.needs (omega (arith, e, more)) in
    let high = total_none costs r.needs f.0 f.1 (ltb-true 1000000000 (value costs f.0) f.2) in
    let low = value_low costs r.fact in_range in
    elim (joined_is 1 (total costs r.needs)) [
      | inl j ↦ let a = j.1 in absurd (omega (arith, a, high))
      | inr j ↦ let n = j.1 in omega (arith, n, low)
    ]

-- ---- a rule is tried

module _ (rules : List Rule) (n : ℕ) (users : List (List ℕ)) (u : AreUsers rules (length rules) users) (fit : list_all (fits_rule n) rules ≡ true)
    (k : ℕ) (r : Rule) (at : slice_get rules k ≡ Some r) (costs counts : List ℕ) (waits : List Bool) (next : List ℕ) (w : IsWork rules n costs counts waits next) where
  there : Member rules r
  there = member_at rules k r at

  fits : fits_rule (length costs) r ≡ true
  fits = subst (λ m. fits_rule m r ≡ true) (sym w.long) (all_member (fits_rule n) rules r there fit)

  in_flags : k < length waits
  in_flags = subst (λ m. k < m) (sym w.flags) (slice_get_within rules k r at)

  -- it waits no more
  unflagged : (j : ℕ) → waits_at (set waits k false) j ≡ true → (j ≡ k → ⊥) × (waits_at waits j ≡ true)
  unflagged j h = elim (cases_eq j k) [
    | inl e ↦ absurd (false≢true (sym (get_or-set_same waits k false false in_flags) ∙ subst (λ x. waits_at (set waits k false) x ≡ true) e h))
    | inr ne ↦ (ne, sym (get_or-set_other waits k j false false ne) ∙ h)
  ]

  -- what waits besides it is listed behind it
  behind : (rest : List ℕ) → IsReady rules costs waits (k ∷ (rest ++ next)) → (j : ℕ) → waits_at (set waits k false) j ≡ true → Member (rest ++ next) j
  behind rest a j h =
      let p = unflagged j h in
      elim (a.listed j p.1) [ inl e ↦ absurd (p.0 (sym e)) | inr m ↦ m ]

  pub tries_same : value costs r.fact ≤ cost_by costs r → Tries rules n k costs counts waits next costs counts (set waits k false) next
  tries_same above = record {
    work = record { long = w.long; in_range = w.in_range; counted = w.counted; flags = length-set waits k false ∙ w.flags; lack_none = λ j h. w.lack_none j (unflagged j h).1; known = w.known };
    lowers = lowers_none rules costs w.in_range;
    lighter = omega arith;
    ready = λ rest a. record {
      each = λ j q h. elim (cases_eq j k) [
        | inl e ↦ inr (subst (λ z. value costs z.fact ≤ cost_by costs z) (same_Some r q (sym at ∙ subst (λ x. slice_get rules x ≡ Some q) e h)) above)
        | inr ne ↦ elim (a.each j q h) [ inl f ↦ inl (get_or-set_other waits k j false false ne ∙ f) | inr c ↦ inr c ]
      ];
      listed = behind rest a;
    };
  }

  -- with the cost of one fact lower, a rule lowers no cost unless it needs that fact
  module _ (less : cost_by costs r < value costs r.fact) where
    unneeded : (q : Rule) → list_any (nat_eq r.fact) q.needs ≡ false → value costs q.fact ≤ cost_by costs q → value (set costs r.fact (cost_by costs r)) q.fact ≤ cost_by (set costs r.fact (cost_by costs r)) q
    unneeded q h c =
        let l = (fallen r costs fits less rules there w.in_range).low.each q.fact in
        let same : cost_by (set costs r.fact (cost_by costs r)) q ≡ cost_by costs q = ap (joined 1) (total_same costs r.fact (cost_by costs r) q.needs h) in
        omega (arith, l, same, c)

    itself : list_any (nat_eq r.fact) r.needs ≡ false → value (set costs r.fact (cost_by costs r)) r.fact ≤ cost_by (set costs r.fact (cost_by costs r)) r
    itself h =
        let e = here r costs fits less in
        let same : cost_by (set costs r.fact (cost_by costs r)) r ≡ cost_by costs r = ap (joined 1) (total_same costs r.fact (cost_by costs r) r.needs h) in
        omega (arith, e, same)

    -- the costs of other facts are what they were
    others_reached : (x : ℕ) → (x ≡ r.fact → ⊥) → unreached (set costs r.fact (cost_by costs r)) x ≡ unreached costs x
    others_reached x ne = ap (nat_lt 1000000000) (elsewhere r costs fits less x ne)

    now_reached : unreached (set costs r.fact (cost_by costs r)) r.fact ≡ false
    now_reached =
        let e = here r costs fits less in
        let low = value_low costs r.fact w.in_range in
        let l = less in
        le-ltb 1000000000 (value (set costs r.fact (cost_by costs r)) r.fact) (omega (arith, e, low, l))

    -- where it had no cost, the rules that need it lack one need less
    counts_fell : (counts' : List ℕ) (b : Bool) → unreached costs r.fact ≡ b → CountsDown (only_if b (row users r.fact)) counts counts' → AreCounts rules (unreached (set costs r.fact (cost_by costs r))) counts'
    counts_fell counts' true was d = counts_met rules (unreached costs) (unreached (set costs r.fact (cost_by costs r))) users u r.fact was now_reached others_reached counts counts' d w.counted
    counts_fell counts' false was d = counts_same counts counts' d (counts_alike rules (unreached costs) (unreached (set costs r.fact (cost_by costs r))) counts (λ j q x h m. elim (cases_eq x r.fact) [
      | inl e ↦ subst (λ y. unreached costs y ≡ unreached (set costs r.fact (cost_by costs r)) y) (sym e) (was ∙ sym now_reached)
      | inr ne ↦ sym (others_reached x ne)
    ]) w.counted)

    pub tries_fell : (counts' : List ℕ) (waits' : List Bool) (next' : List ℕ) → CountsDown (only_if (unreached costs r.fact) (row users r.fact)) counts counts' → Waits counts' (row users r.fact) (set waits k false) next waits' next' → Tries rules n k costs counts waits next (set costs r.fact (cost_by costs r)) counts' waits' next'
    tries_fell counts' waits' next' d f =
        let fall = fallen r costs fits less rules there w.in_range in
        let counted = counts_fell counts' (unreached costs r.fact) refl d in
        let flags : length waits' ≡ length rules = f.long ∙ (length-set waits k false ∙ w.flags) in
        let was : length (set waits k false) ≡ length rules = length-set waits k false ∙ w.flags in
        record {
          work = record {
            long = fall.len ∙ w.long;
            in_range = fall.costs;
            counted = counted;
            flags = flags;
            lack_none = λ j h. elim (f.only j h) [
              | inl g ↦
                  let x = w.lack_none j (unflagged j g).1 in
                  let y = d.each j in
                  omega (arith, x, y)
              | inr met ↦ met
            ];
            known = subst (λ m. are_below m next' ≡ true) was (f.below (subst (λ m. are_below m next ≡ true) (sym was) w.known));
          };
          lowers = fall;
          lighter = let down = sum_less r costs fits less in omega (arith, down);
          ready = λ rest a. record {
            each = λ j q h. elim (cases_Bool (list_any (nat_eq r.fact) q.needs)) [
              | inl needed ↦
                  let needs_it = same_member nat_eq (λ x y. eqb-true x y) q.needs r.fact needed in
                  elim (cases_lt 0 (count_at counts' j)) [
                    | inl more ↦ inr (lowers_no rules (set costs r.fact (cost_by costs r)) counts' j q fall.costs counted h more)
                    | inr none ↦ inl (f.all j (user_there rules users j q r.fact u h needs_it) (omega (arith, none)))
                  ]
              | inr not_needed ↦ elim (cases_eq j k) [
                | inl e ↦
                    let same = same_Some r q (sym at ∙ subst (λ x. slice_get rules x ≡ Some q) e h) in
                    inr (subst (λ z. value (set costs r.fact (cost_by costs r)) z.fact ≤ cost_by (set costs r.fact (cost_by costs r)) z) same (itself (subst (λ z. list_any (nat_eq r.fact) z.needs ≡ false) (sym same) not_needed)))
                | inr ne ↦ elim (a.each j q h) [
                  | inl waited ↦ inl (f.keeps j (get_or-set_other waits k j false false ne ∙ waited))
                  | inr c ↦ inr (unneeded q not_needed c)
                ]
              ]
            ];
            listed = λ j h. elim (f.listed j h) [
              | inl g ↦ elim (append_member rest next j (behind rest a j g)) [
                | inl m ↦ member_left rest next' j m
                | inr m ↦ member_right rest next' j (f.stays j m)
              ]
              | inr m ↦ member_right rest next' j m
            ];
          };
        }

  pub tries : (fell : Bool) (new counts' : List ℕ) (waits' : List Bool) (next' : List ℕ) → Relaxes r costs fell new → (fell ≡ true → CountsDown (only_if (unreached costs r.fact) (row users r.fact)) counts counts' × Waits counts' (row users r.fact) (set waits k false) next waits' next') → (fell ≡ false → (counts' ≡ counts) × (waits' ≡ set waits k false) × (next' ≡ next)) → Tries rules n k costs counts waits next new counts' waits' next'
  tries fell new counts' waits' next' one f g = elim one.is [
    | inl (t, less, is) ↦ subst (λ cs. Tries rules n k costs counts waits next cs counts' waits' next') (sym is) (tries_fell less counts' waits' next' (f t).0 (f t).1)
    | inr (t, above, is) ↦
        subst (λ cs. Tries rules n k costs counts waits next cs counts' waits' next') (sym is)
        (subst (λ ks. Tries rules n k costs counts waits next costs ks waits' next') (sym (g t).0)
        (subst (λ ws. Tries rules n k costs counts waits next costs counts ws next') (sym (g t).1)
        (subst (Tries rules n k costs counts waits next costs counts (set waits k false)) (sym (g t).2) (tries_same above))))
  ]

-- ---- rounds

pub round_begins : (rules : List Rule) (n : ℕ) (costs counts : List ℕ) (waits : List Bool) (now : List ℕ) → IsWork rules n costs counts waits [] → IsReady rules costs waits now → Rounds rules n costs costs counts waits now []
round_begins rules n costs counts waits now w a = record { work = w; lowers = lowers_none rules costs w.in_range; lighter = omega arith; ready = subst (IsReady rules costs waits) (sym (append-nil now)) a }

pub round_on : (rules : List Rule) (n k : ℕ) (old costs counts : List ℕ) (waits : List Bool) (next costs' counts' : List ℕ) (waits' : List Bool) (next' rest : List ℕ) → Rounds rules n old costs counts waits (k ∷ rest) next → Tries rules n k costs counts waits next costs' counts' waits' next' → Rounds rules n old costs' counts' waits' rest next'
round_on rules n k old costs counts waits next costs' counts' waits' next' rest a t = record {
  work = t.work;
  lowers = lowers_on rules old costs costs' a.lowers t.lowers;
  lighter = let x = a.lighter in let y = t.lighter in omega (arith, x, y);
  ready = t.ready rest a.ready;
}

drop_at : (xs : List ℕ) (i : ℕ) → i < length xs → drop i xs ≡ slice_index_or xs i 0 ∷ drop (i + 1) xs
drop_at [] i lt = absurd (omega (arith, lt))
drop_at (x ∷ xs) zero lt = refl
drop_at (x ∷ xs) (suc i) lt = let e : suc i + 1 ≡ suc (i + 1) = omega arith in drop_at xs i (omega (arith, lt)) ∙ ap (λ n. slice_index_or xs i 0 ∷ drop n (x ∷ xs)) (sym e)

-- the next of the rules that waited
pub round_next : (rules : List Rule) (n : ℕ) (now : List ℕ) (i : ℕ) (old costs counts : List ℕ) (waits : List Bool) (next costs' counts' : List ℕ) (waits' : List Bool) (next' : List ℕ) → i < length now → Rounds rules n old costs counts waits (drop i now) next → Tries rules n (slice_index_or now i 0) costs counts waits next costs' counts' waits' next' → Rounds rules n old costs' counts' waits' (drop (i + 1) now) next'
round_next rules n now i old costs counts waits next costs' counts' waits' next' lt a t = round_on rules n (slice_index_or now i 0) old costs counts waits next costs' counts' waits' next' (drop (i + 1) now) (subst (λ rest. Rounds rules n old costs counts waits rest next) (drop_at now i lt) a) t

-- ---- the first rules that wait

-- the next of all rules
pub first_on : (counts : List ℕ) (k : ℕ) (w0 : List Bool) (x0 : List ℕ) (w : List Bool) (x : List ℕ) (w' : List Bool) (x' : List ℕ) → Waits counts (range_with_len 0 k) w0 x0 w x → Waits counts (k ∷ []) w x w' x' → Waits counts (range_with_len 0 (k + 1)) w0 x0 w' x'
first_on counts k w0 x0 w x w' x' a b = subst (λ ks. Waits counts ks w0 x0 w' x') (sym (places_more k)) (waits_more counts (range_with_len 0 k) k w0 x0 w x w' x' a b)

none_flagged : (n k : ℕ) → waits_at (replicate n false) k ≡ true → ⊥
none_flagged n k h = elim (cases_lt k n) [
  | inl lt ↦ false≢true (sym (get_or-replicate n k false false lt) ∙ h)
  | inr ge ↦ let l = length-replicate n false in false≢true (sym (get_or_past (replicate n false) k false (omega (arith, l, ge))) ∙ h)
]

module _ (rules : List Rule) (costs counts : List ℕ) (in_range : are_costs costs ≡ true) (counted : AreCounts rules (unreached costs) counts) (waits : List Bool) (next : List ℕ)
    (a : Waits counts (range_with_len 0 (length counts)) (replicate (length rules) false) [] waits next) where
  pub first_work : (n : ℕ) → length costs ≡ n → IsWork rules n costs counts waits next
  first_work n long = record {
    long = long;
    in_range = in_range;
    counted = counted;
    flags = a.long ∙ length-replicate (length rules) false;
    lack_none = λ k h. elim (a.only k h) [ inl f ↦ absurd (none_flagged (length rules) k f) | inr met ↦ met ];
    known = subst (λ m. are_below m next ≡ true) (length-replicate (length rules) false) (a.below refl);
  }

  pub first_ready : IsReady rules costs waits next
  first_ready = record {
    each = λ k r h. elim (cases_lt 0 (count_at counts k)) [
      | inl more ↦ inr (lowers_no rules costs counts k r in_range counted h more)
      | inr none ↦
          let l = counted.long in
          let lt = slice_get_within rules k r h in
          inl (a.all k (range_there 0 (length counts) k (omega arith) (omega (arith, l, lt))) (omega (arith, none)))
    ];
    listed = λ k h. elim (a.listed k h) [ inl f ↦ absurd (none_flagged (length rules) k f) | inr m ↦ m ];
  }

-- between rounds nothing is left
pub round_ends : (rules : List Rule) (n : ℕ) (first old new counts : List ℕ) (waits : List Bool) (next : List ℕ) → Lowers rules first old → Rounds rules n old new counts waits [] next → IsWork rules n new counts waits next × Lowers rules first new × IsReady rules new waits next
round_ends rules n first old new counts waits next l r = (r.work, lowers_on rules first old new l r.lowers, r.ready)

-- the row of a fact has numbers of rules
pub row_below : (rules : List Rule) (users : List (List ℕ)) (m f : ℕ) → AreUsers rules (length rules) users → m ≡ length rules → are_below m (row users f) ≡ true
row_below rules users m f u e = subst (λ k. are_below k (row users f) ≡ true) (sym e) (u.below.each f)

pub rule_fits : (rules : List Rule) (n m k : ℕ) (r : Rule) → list_all (fits_rule n) rules ≡ true → m ≡ n → slice_get rules k ≡ Some r → fits_rule m r ≡ true
rule_fits rules n m k r fit e at = subst (λ x. fits_rule x r ≡ true) (sym e) (all_member (fits_rule n) rules r (member_at rules k r at) fit)

pub rule_in : (rules : List Rule) (n k : ℕ) (r : Rule) → list_all (fits_rule n) rules ≡ true → slice_get rules k ≡ Some r → r.fact < n
rule_in rules n k r fit at = ltb-true r.fact n (and_parts (nat_lt r.fact n) (are_below n r.needs) (rule_fits rules n n k r fit refl at)).0

-- where nothing waits, no rule lowers a cost
pub none_waits : (rules : List Rule) (costs : List ℕ) (waits : List Bool) → IsReady rules costs waits [] → IsClosed rules costs
none_waits rules costs waits a = record {
  each = λ r m.
      let p = number_at rules r m in
      elim (a.each p.0 r p.1) [ inl w ↦ absurd (a.listed p.0 w) | inr c ↦ c ];
}

-- ---- what code reads

pub below_at : (n : ℕ) (xs : List ℕ) (i x : ℕ) → are_below n xs ≡ true → slice_get xs i ≡ Some x → x < n
below_at n xs i x h at = ltb-true x n (all_member (λ y. nat_lt y n) xs x (member_at xs i x at) h)

pub none_left : (rules : List Rule) (costs : List ℕ) (waits : List Bool) (now : List ℕ) → length now ≡ 0 → IsReady rules costs waits now → IsClosed rules costs
none_left rules costs waits [] e a = none_waits rules costs waits a
none_left rules costs waits (k ∷ ks) e a = absurd (omega (arith, e))
