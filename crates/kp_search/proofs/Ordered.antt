-- A table's states in their order.
use Rattle.std.proofs.Common.{◌≡◌, ◌<◌, ◌≤◌, ◌+◌, ◌-◌, ◌⊎◌, ℕ, zero, suc, Bool, IsTrue, Result, Ok, Err, MatchResult, is_ok, is_some, IfSome, IfNone, Option, None, List, [], ◌∷◌, ◌++◌, Some, insert, set, take, length, slice_get, get_or, arith, refl, sym, ap, subst, ◌∙◌, inl, inr}
use Rattle.std.specs.List.{AllByRecursion}
use Rattle.std.proofs.lemmas.Bool.{cases_order, cases_lt, false≢true}
use Rattle.std.proofs.lemmas.List.{length-append, length-set, length-take-le}
use Rattle.std.proofs.lemmas.Grind.{take-set_at}
use Rattle.std.proofs.lemmas.List.Edits.{get_or-insert_at, get_or-insert_below, get_or-insert_above, length-insert}
use Rattle.std.proofs.lemmas.Option.{slice_get_within, slice_get-get_or, get_or_from_slice_get, same_Some}
use Rattle.kp_base.specs.Lists.{Member}
use Rattle.kp_base.proofs.Lists.{append_member, member_at}
use Rattle.kp_base.proofs.Places.{get_left}
use Rattle.kp_classic.specs.States.{FactSet, has, IsBefore}
use Rattle.kp_classic.proofs.Public.{state_never_before_itself}
use Rattle.kp_search.specs.StateTables.{StateList, with_state}
use Rattle.kp_search.specs.Sorted.{StandsAt, IsOrderOf, AreBefore, IsBeforeRest, IsGap, IsWhole}
use Rattle.kp_search.proofs.Slices.{slice_last, slice_parts, read_at}

before_trans : (a b c : FactSet) → IsBefore a b → IsBefore b c → IsBefore a c
before_trans a b c p q = elim (cases_order p.fact q.fact) [
  | inl same ↦ (let x = ap (has b.hold) same in let y = p.present in let z = q.absent in cc)
  | inr (inl lt) ↦ record { fact = p.fact; absent = p.absent; present = sym (q.same_before p.fact lt) ∙ p.present; same_before = λ f l. p.same_before f l ∙ q.same_before f (omega (arith, l, lt)) }
  | inr (inr gt) ↦ record { fact = q.fact; absent = p.same_before q.fact gt ∙ q.absent; present = q.present; same_before = λ f l. p.same_before f (omega (arith, l, gt)) ∙ q.same_before f l }
]

-- ---- a list with one element more

insert_below : (xs : List ℕ) (i x q y : ℕ) → i ≤ length xs → q < i → slice_get xs q ≡ Some y → slice_get (insert xs i x) q ≡ Some y
insert_below xs i x q y le lt h =
    let long = length-insert xs i x le in
    slice_get-get_or (insert xs i x) q 0 (omega (arith, long, le, lt)) ∙ ap Some (get_or-insert_below xs i x 0 q lt le ∙ get_or_from_slice_get xs q y 0 h)

insert_here : (xs : List ℕ) (i x : ℕ) → i ≤ length xs → slice_get (insert xs i x) i ≡ Some x
insert_here xs i x le = let long = length-insert xs i x le in slice_get-get_or (insert xs i x) i 0 (omega (arith, long, le)) ∙ ap Some (get_or-insert_at xs i x 0 le)

insert_above : (xs : List ℕ) (i x q y : ℕ) → i ≤ length xs → i ≤ q → slice_get xs q ≡ Some y → slice_get (insert xs i x) (q + 1) ≡ Some y
insert_above xs i x q y le ge h =
    let long = length-insert xs i x le in
    let lt = slice_get_within xs q y h in
    slice_get-get_or (insert xs i x) (q + 1) 0 (omega (arith, long, lt)) ∙ ap Some (get_or-insert_above xs i x 0 q ge le ∙ get_or_from_slice_get xs q y 0 h)

insert_parts : (xs : List ℕ) (i x q y : ℕ) → i ≤ length xs → slice_get (insert xs i x) q ≡ Some y → ((q < i) × (slice_get xs q ≡ Some y)) ⊎ (((q ≡ i) × (y ≡ x)) ⊎ ((r : ℕ) × (q ≡ r + 1) × (i ≤ r) × (slice_get xs r ≡ Some y)))
insert_parts xs i x q y le h =
    let long = length-insert xs i x le in
    let within = slice_get_within (insert xs i x) q y h in
    let is = get_or_from_slice_get (insert xs i x) q y 0 h in
    elim (cases_order q i) [
      | inl same ↦ inr (inl (same, sym is ∙ (ap (λ k. get_or (insert xs i x) k 0) same ∙ get_or-insert_at xs i x 0 le)))
      | inr (inl lt) ↦ inl (lt, slice_get-get_or xs q 0 (omega (arith, lt, le)) ∙ ap Some (sym (get_or-insert_below xs i x 0 q lt le) ∙ is))
      | inr (inr gt) ↦ inr (inr (
        q - 1,
        omega (arith, gt),
        omega (arith, gt),
        slice_get-get_or xs (q - 1) 0 (omega (arith, gt, within, long))
            ∙ ap Some (sym (get_or-insert_above xs i x 0 (q - 1) (omega (arith, gt)) le) ∙ (ap (λ k. get_or (insert xs i x) k 0) (omega (arith, gt)) ∙ is)),
      ))
    ]

-- ---- where a state stands

module _ (states : List FactSet) (order : List ℕ) (o : IsOrderOf order states) where
  -- what is read in the middle
  pub stands : (m : ℕ) (x : FactSet) → m < length order → x ≡ get_or states (get_or order m 0) x → StandsAt states order m x
  stands m x lt is =
      let there = slice_get-get_or order m 0 lt in
      record { place = get_or order m 0; there = there; state = read_at states (get_or order m 0) x x (o.inside m (get_or order m 0) there) is refl }

  one_state : (at : ℕ) (a b : FactSet) → StandsAt states order at a → StandsAt states order at b → a ≡ b
  one_state at a b p q = same_Some a b (sym p.state ∙ (ap (slice_get states) (same_Some p.place q.place (sym p.there ∙ q.there)) ∙ q.state))

  pub all_before : (m : ℕ) (x s : FactSet) → StandsAt states order m x → IsBefore x s → AreBefore states order (m + 1) s
  all_before m x s here less at a lt p = elim (cases_lt at m) [
    | inl below ↦ before_trans a x s (o.rising at m a x below p here) less
    | inr ge ↦ subst (λ y. IsBefore y s) (one_state m x a here (subst (λ k. StandsAt states order k a) (omega (arith, lt, ge)) p)) less
  ]

  pub before_all : (m : ℕ) (x s : FactSet) → StandsAt states order m x → IsBefore s x → IsBeforeRest states order m s
  before_all m x s here less at a ge p = elim (cases_lt m at) [
    | inl above ↦ before_trans s x a less (o.rising m at x a above here p)
    | inr le ↦ subst (IsBefore s) (one_state m x a here (subst (λ k. StandsAt states order k a) (omega (arith, ge, le)) p)) less
  ]

  -- a state that stands in the order is one of the table, and one that fits into a gap isn't
  pub found : (at : ℕ) (s : FactSet) → StandsAt states order at s → Member states s
  found at s p = member_at states p.place s p.state

  pub not_found : (gap : ℕ) (s : FactSet) → IsGap states order gap s → Member states s → ⊥
  not_found gap s g m =
      let r = o.each s m in
      elim (cases_lt r.0 gap) [
        | inl lt ↦ state_never_before_itself s (g.below r.0 s lt r.1)
        | inr ge ↦ state_never_before_itself s (g.above r.0 s ge r.1)
      ]

  -- ---- one state more

  module _ (s : FactSet) where
    stays : (at : ℕ) (a : FactSet) → StandsAt states order at a → StandsAt (states ++ s ∷ []) order at a
    stays at a p = record { place = p.place; there = p.there; state = get_left states (s ∷ []) p.place a p.state }

    in_old : (place : ℕ) (a : FactSet) → place < length states → slice_get (states ++ s ∷ []) place ≡ Some a → slice_get states place ≡ Some a
    in_old place a lt h = elim (slice_parts states s place a h) [
      | inl e ↦ e
      | inr e ↦ absurd (omega (arith, lt, e.0))
    ]

    was : (at : ℕ) (a : FactSet) → StandsAt (states ++ s ∷ []) order at a → StandsAt states order at a
    was at a p = record { place = p.place; there = p.there; state = in_old p.place a (o.inside at p.place p.there) p.state }

    more : length states < length (states ++ s ∷ [])
    more = let l = length-append states (s ∷ []) in omega (arith, l)

    -- it is put into its gap
    module _ (gap : ℕ) (g : IsGap states order gap s) where
      abbrev grown : List ℕ
      grown = insert order gap (length states)

      -- what stands there then
      abbrev Stood : ℕ → FactSet → Type 0
      Stood at a = ((at < gap) × StandsAt states order at a) ⊎ (((at ≡ gap) × (a ≡ s)) ⊎ ((k : ℕ) × (at ≡ k + 1) × (gap ≤ k) × StandsAt states order k a))

      stood : (at : ℕ) (a : FactSet) → StandsAt (states ++ s ∷ []) grown at a → Stood at a
      stood at a p = elim (insert_parts order gap (length states) at p.place g.in_range p.there) [
        | inl (lt, h) ↦ inl (lt, record { place = p.place; there = h; state = in_old p.place a (o.inside at p.place h) p.state })
        | inr (inl (same, is)) ↦ inr (inl (same, same_Some a s (sym p.state ∙ (ap (slice_get (states ++ s ∷ [])) is ∙ slice_last states s))))
        | inr (inr (k, next, ge, h)) ↦ inr (inr (k, next, ge, record { place = p.place; there = h; state = in_old p.place a (o.inside k p.place h) p.state }))
      ]

      rises : (at m : ℕ) (a b : FactSet) → at < m → Stood at a → Stood m b → IsBefore a b
      rises at m a b lt (inl (low, p)) (inl (low', q)) = o.rising at m a b lt p q
      rises at m a b lt (inl (low, p)) (inr (inl (here, is))) = subst (IsBefore a) (sym is) (g.below at a low p)
      rises at m a b lt (inl (low, p)) (inr (inr (k, next, ge, q))) = o.rising at k a b (omega (arith, low, ge)) p q
      rises at m a b lt (inr (inl (here, is))) (inl (low, q)) = absurd (omega (arith, lt, here, low))
      rises at m a b lt (inr (inl (here, is))) (inr (inl (here', is'))) = absurd (omega (arith, lt, here, here'))
      rises at m a b lt (inr (inl (here, is))) (inr (inr (k, next, ge, q))) = subst (λ x. IsBefore x b) (sym is) (g.above k b ge q)
      rises at m a b lt (inr (inr (j, last, ge, p))) (inl (low, q)) = absurd (omega (arith, lt, last, ge, low))
      rises at m a b lt (inr (inr (j, last, ge, p))) (inr (inl (here, is))) = absurd (omega (arith, lt, last, ge, here))
      rises at m a b lt (inr (inr (j, last, ge, p))) (inr (inr (k, next, ge', q))) = o.rising j k a b (omega (arith, lt, last, next)) p q

      pub put : IsOrderOf grown (states ++ s ∷ [])
      put = record {
        inside = λ at place h. let b = more in elim (insert_parts order gap (length states) at place g.in_range h) [
          | inl (lt, e) ↦ let a = o.inside at place e in omega (arith, a, b)
          | inr (inl (same, is)) ↦ omega (arith, is, b)
          | inr (inr (k, next, ge, e)) ↦ let a = o.inside k place e in omega (arith, a, b)
        ];
        rising = λ at m a b lt p q. rises at m a b lt (stood at a p) (stood m b q);
        each = λ a m. elim (append_member states (s ∷ []) a m) [
          | inl old ↦ let r = o.each a old in moved r.0 a r.1
          | inr (inl same) ↦ subst (λ x. (k : ℕ) × StandsAt (states ++ s ∷ []) grown k x) same (gap, record { place = length states; there = insert_here order gap (length states) g.in_range; state = slice_last states s })
          | inr (inr none) ↦ absurd none
        ];
      }
        where
          moved : (at : ℕ) (a : FactSet) → StandsAt states order at a → (k : ℕ) × StandsAt (states ++ s ∷ []) grown k a
          moved at a p = elim (cases_lt at gap) [
            | inl lt ↦ (at, record { place = p.place; there = insert_below order gap (length states) at p.place g.in_range lt p.there; state = get_left states (s ∷ []) p.place a p.state })
            | inr ge ↦ (at + 1, record { place = p.place; there = insert_above order gap (length states) at p.place g.in_range ge p.there; state = get_left states (s ∷ []) p.place a p.state })
          ]

  -- a search tells whether the state is one of the table
  pub tells : (s : FactSet) (r : Result ℕ ℕ) (b : Bool) → b ≡ is_ok r → MatchResult r (λ at. StandsAt states order at s) (λ gap. IsGap states order gap s) → (IsTrue b → Member states s) × (Member states s → IsTrue b)
  tells s (Ok at) b is h = (λ _. found at s h, λ _. subst IsTrue (sym is) refl)
  tells s (Err gap) b is h = (λ t. absurd (false≢true (sym is ∙ t)), λ m. absurd (not_found gap s h m))

-- of states of one number of facts, each that is read
pub alike_at : (n : ℕ) (states : List FactSet) (i : ℕ) (s : FactSet) → AllByRecursion (λ (x : FactSet). x.facts ≡ n) states → i < length states → s ≡ get_or states i s → s.facts ≡ n
alike_at n [] i s h lt is = absurd (omega (arith, lt))
alike_at n (x ∷ xs) zero s h lt is = ap (λ (y : FactSet). y.facts) is ∙ h.0
alike_at n (x ∷ xs) (suc i) s h lt is = alike_at n xs i s h.1 (omega (arith, lt)) is

-- the same states, with another in a row
alike_set : (n : ℕ) (states : List FactSet) (i : ℕ) (s : FactSet) → AllByRecursion (λ (x : FactSet). x.facts ≡ n) states → s.facts ≡ n → AllByRecursion (λ (x : FactSet). x.facts ≡ n) (set states i s)
alike_set n [] i s h one = tt
alike_set n (x ∷ xs) zero s h one = (one, h.1)
alike_set n (x ∷ xs) (suc i) s h one = (h.0, alike_set n xs i s h.1 one)

-- a state in the next row, and that row's place in its gap
module _ (rows : List FactSet) (order : List ℕ) (s : FactSet) (gap capacity : ℕ) (w : IsWhole s.facts rows order capacity) (g : IsGap (take (length order) rows) order gap s) (lt : length order < length rows) where
  longer : length (insert order gap (length order)) ≡ length order + 1
  longer = length-insert order gap (length order) g.in_range

  pub one_more : take (length (insert order gap (length order))) (set rows (length order) s) ≡ take (length order) rows ++ s ∷ []
  one_more = take-set_at rows (length order) (length (insert order gap (length order))) s longer lt

  pub still_whole : (more : ℕ) → capacity ≤ more → IsWhole s.facts (set rows (length order) s) (insert order gap (length order)) more
  still_whole more le =
      let long = length-set rows (length order) s in
      let e = longer in
      let r = w.reserved in
      let first = length-take-le (length order) rows w.within in
      record {
        alike = alike_set s.facts rows (length order) s w.alike refl;
        sorted = subst (IsOrderOf (insert order gap (length order))) (sym one_more)
            (subst (λ k. IsOrderOf (insert order gap k) (take (length order) rows ++ s ∷ [])) first (put (take (length order) rows) order w.sorted s gap g));
        within = omega (arith, long, e, lt);
        reserved = omega (arith, long, r, le);
      }

  -- the same, of what was written
  pub whole_put : (rows' : List FactSet) (order' : List ℕ) (more : ℕ) → rows' ≡ set rows (length order) s → order' ≡ insert order gap (length order) → capacity ≤ more → IsWhole s.facts rows' order' more
  whole_put rows' order' more r o le = rw (r, o) (still_whole more le)

-- the same, of what was read
pub tells_read : (states read : List FactSet) (order keys : List ℕ) → IsOrderOf order states → read ≡ states → keys ≡ order → (s : FactSet) (r : Result ℕ ℕ) (b : Bool) → b ≡ is_ok r
    → MatchResult r (λ at. StandsAt read keys at s) (λ gap. IsGap read keys gap s) → (IsTrue b → Member states s) × (Member states s → IsTrue b)
tells_read states read order keys o is_read is_order s r b is h =
    tells states order o s r b is
    (subst (λ xs. MatchResult r (λ at. StandsAt xs order at s) (λ gap. IsGap xs order gap s)) is_read
    (subst (λ ks. MatchResult r (λ at. StandsAt read ks at s) (λ gap. IsGap read ks gap s)) is_order h))

-- a place that is told, or none, tells whether the state is there
pub told : (states : List FactSet) (s : FactSet) (r : Option ℕ) (b : Bool) → b ≡ is_some r → IfSome r (λ place. slice_get states place ≡ Some s) → IfNone r (Member states s → ⊥) → (IsTrue b → Member states s) × (Member states s → IsTrue b)
told states s (Some place) b is h n = (λ _. member_at states place s h, λ _. subst IsTrue (sym is) refl)
told states s None b is h n = (λ t. absurd (false≢true (sym is ∙ t)), λ m. absurd (n m))

-- what contracts see of the table then
pub view_put : (facts : ℕ) (rows was rows' : List FactSet) (order order' : List ℕ) (s : FactSet) → was ≡ rows → take (length order') rows' ≡ take (length order) was ++ s ∷ [] → length rows' ≡ length was
    → ◌≡◌ {A = StateList} (record { facts = facts; states = take (length order') rows'; room = length rows' }) (with_state (record { facts = facts; states = take (length order) rows; room = length rows }) s)
view_put facts rows was rows' order order' s e f g = rw (f, g, e) refl
