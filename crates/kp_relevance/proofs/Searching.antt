-- Rows closed one after another, each by a search for what leads to its number.
use Rattle.std.proofs.Common.{◌≡◌, ◌<◌, ◌≤◌, ◌||◌, ◌⊎◌, ℕ, Bool, true, false, cond, List, [], ◌∷◌, length, get_or, set, replicate, Some, refl, sym, ap, subst, ◌∙◌, inl, inr, arith, length-set, get_or-set_same, get_or-set_other}
use Rattle.std.proofs.lemmas.Bool.{or_cases, or_left, or_right, cases_eq, false≢true}
use Rattle.std.proofs.lemmas.List.{length-replicate, get_or-replicate}
use Rattle.std.proofs.lemmas.List.Sums.{sum_by-cons, sum_by-set}
use Rattle.std.proofs.lemmas.Option.{slice_get-get_or}
use Rattle.kp_bits.specs.Rows.{either, DifferFirst}
use Rattle.kp_relevance.specs.Tabled.{Marks, marked, IsSquare, Linked, Closes, IsClosedRow, LeadsTo, Grows, IsFollowed, IsNext, unset, ClosesRow, ClosesRows}
use Rattle.kp_relevance.proofs.Tables.{length-either, either_at, IsSquare-set}

-- ---- links

-- a row that is closed for marks is closed for what they lead to
links_within : (n : ℕ) (f : Marks) (row : List Bool) → ((m i : ℕ) → m < n → i < n → get_or row m false ≡ true → f m i ≡ true → get_or row i false ≡ true)
    → (k i : ℕ) → Linked n f k i → get_or row k false ≡ true → get_or row i false ≡ true
links_within n f row closed _ _ (Linked.link k i hk hi h) there = closed k i hk hi there h
links_within n f row closed _ _ (Linked.chain k m i p q) there = links_within n f row closed m i q (links_within n f row closed k m p there)

-- what links lead to is linked
links_on : (n : ℕ) (f g : Marks) → ((j i : ℕ) → j < n → i < n → f j i ≡ true → Linked n g j i) → (j i : ℕ) → Linked n f j i → Linked n g j i
links_on n f g each _ _ (Linked.link j i hj hi h) = each j i hj hi h
links_on n f g each _ _ (Linked.chain j k i p q) = Linked.chain j k i (links_on n f g each j k p) (links_on n f g each k i q)

-- ---- how many bits are not set

abbrev gap : Bool → ℕ
gap b = cond b 0 1

unset_or : (xs ys : List Bool) → unset (either xs ys) ≤ unset xs
unset_or [] ys = omega arith
unset_or (x ∷ xs) [] = omega arith
unset_or (x ∷ xs) (y ∷ ys) =
    let rest = unset_or xs ys in
    let one = sum_by-cons gap (x || y) (either xs ys) in
    let all = sum_by-cons gap x xs in
    let first = no_more x y in
    omega (arith, rest, one, all, first)
  where
    no_more : (x y : Bool) → gap (x || y) ≤ gap x
    no_more true y = omega arith
    no_more false true = omega arith
    no_more false false = omega arith

unset_less : (xs : List Bool) (k : ℕ) → k < length xs → get_or xs k false ≡ false → unset (set xs k true) < unset xs
unset_less xs k lt is =
    let e = sum_by-set gap xs k true false lt in
    let one : gap (get_or xs k false) ≡ 1 = ap gap is in
    omega (arith, e, one)

-- ---- a row grows

module _ (n : ℕ) (rows : List (List Bool)) where
  pub grows_none : (row : List Bool) → length row ≡ n → Grows n rows row row
  grows_none row e = record { wide = e; kept = λ i hi h. h; only = λ i hi h. LeadsTo.there i h }

  leads_on : (old mid : List Bool) → Grows n rows old mid → (i : ℕ) → i < n → LeadsTo n rows mid i → LeadsTo n rows old i
  leads_on old mid g _ hi (LeadsTo.there i h) = g.only i hi h
  leads_on old mid g _ hi (LeadsTo.linked m i hm h l) = onward m i hm (g.only m hm h) l
    where
      onward : (m i : ℕ) → m < n → LeadsTo n rows old m → Linked n (marked rows) m i → LeadsTo n rows old i
      onward _ i hm (LeadsTo.there m h) l = LeadsTo.linked m i hm h l
      onward _ i hm (LeadsTo.linked k m hk h p) l = LeadsTo.linked k i hk h (Linked.chain k m i p l)

  pub grows_on : (old mid new : List Bool) → Grows n rows old mid → Grows n rows mid new → Grows n rows old new
  grows_on old mid new a b = record {
    wide = b.wide;
    kept = λ i hi h. b.kept i hi (a.kept i hi h);
    only = λ i hi h. leads_on old mid a i hi (b.only i hi h);
  }

  -- ---- what is done

  pub followed_none : (row : List Bool) → length row ≡ n → IsFollowed n rows row (replicate n false)
  followed_none row e = record {
    wide = e;
    wide_done = length-replicate n false;
    within = λ i hi h. absurd (false≢true (sym (get_or-replicate n i false false hi) ∙ h));
    followed = λ m i hm hi h g. absurd (false≢true (sym (get_or-replicate n m false false hm) ∙ h));
  }

  -- the first number at which the row and what is done differ is the next
  pub next_found : (row done : List Bool) (k : ℕ) → IsFollowed n rows row done → DifferFirst row done k → IsNext n row done k
  next_found row done k s d = pick (get_or row k false) (get_or done k false) refl refl
    where
      below : k < n
      below = subst (λ m. k < m) s.wide d.in_range

      apart : get_or row k false ≡ get_or done k false → ⊥
      apart e = d.differ (slice_get-get_or row k false d.in_range ∙ (ap Some e ∙ sym (slice_get-get_or done k false (subst (λ m. k < m) (sym s.wide_done) below))))

      pick : (a b : Bool) → get_or row k false ≡ a → get_or done k false ≡ b → IsNext n row done k
      pick true false p q = record { below = below; there = p; undone = q }
      pick true true p q = absurd (apart (p ∙ sym q))
      pick false false p q = absurd (apart (p ∙ sym q))
      pick false true p q = absurd (false≢true (sym p ∙ s.within k below q))

  -- where all is done the row is closed
  pub all_followed : (row done : List Bool) → row ≡ done → IsFollowed n rows row done → IsClosedRow n rows row
  all_followed row done e s m i hm hi h g = s.followed m i hm hi (subst (λ (xs : List Bool). get_or xs m false ≡ true) e h) g

-- ---- a number is followed

module _ (n : ℕ) (rows : List (List Bool)) (row done : List Bool) (k : ℕ) (sq : IsSquare n rows) (s : IsFollowed n rows row done) (next : IsNext n row done k) where
  abbrev more : List Bool
  more = get_or rows k []

  long : length more ≡ n
  long = sq.bits k next.below

  bit : (i : ℕ) → i < n → get_or (either row more) i false ≡ (get_or row i false || marked rows k i)
  bit i hi = either_at row more i (omega (arith, hi, s.wide)) (omega (arith, hi, long))

  stays : (i : ℕ) → i < n → get_or row i false ≡ true → get_or (either row more) i false ≡ true
  stays i hi h = bit i hi ∙ or_left (get_or row i false) (marked rows k i) h

  comes : (i : ℕ) → i < n → marked rows k i ≡ true → get_or (either row more) i false ≡ true
  comes i hi h = bit i hi ∙ or_right (get_or row i false) (marked rows k i) h

  was_done : (i : ℕ) → (i ≡ k → ⊥) → get_or (set done k true) i false ≡ true → get_or done i false ≡ true
  was_done i ne h = sym (get_or-set_other done k i true false ne) ∙ h

  pub grows_by : Grows n rows row (either row more)
  grows_by = record {
    wide = length-either row more (s.wide ∙ sym long) ∙ s.wide;
    kept = stays;
    only = λ i hi h. elim (or_cases (get_or row i false) (marked rows k i) (sym (bit i hi) ∙ h)) [
      | inl e ↦ LeadsTo.there i e
      | inr e ↦ LeadsTo.linked k i next.below next.there (Linked.link k i next.below hi e)
    ];
  }

  -- the number is done
  pub followed_on : IsFollowed n rows (either row more) (set done k true)
  followed_on = record {
    wide = grows_by.wide;
    wide_done = length-set done k true ∙ s.wide_done;
    within = λ i hi h. elim (cases_eq i k) [
      | inl e ↦ stays i hi (subst (λ m. get_or row m false ≡ true) (sym e) next.there)
      | inr ne ↦ stays i hi (s.within i hi (was_done i ne h))
    ];
    followed = λ m i hm hi h g. elim (cases_eq m k) [
      | inl e ↦ comes i hi (subst (λ x. marked rows x i ≡ true) e g)
      | inr ne ↦ stays i hi (s.followed m i hm hi (was_done m ne h) g)
    ];
  }

  pub fewer_on : unset (set done k true) < unset done
  fewer_on = unset_less done k (omega (arith, next.below, s.wide_done)) next.undone

  -- so is all that is marked in its row, where that is closed
  pub followed_past : IsClosedRow n rows more → IsFollowed n rows (either row more) (either (set done k true) more)
  followed_past closed = record {
    wide = grows_by.wide;
    wide_done = length-either (set done k true) more (followed_on.wide_done ∙ sym long) ∙ followed_on.wide_done;
    within = λ i hi h. elim (cases i hi h) [
      | inl e ↦ followed_on.within i hi e
      | inr e ↦ comes i hi e
    ];
    followed = λ m i hm hi h g. elim (cases m hm h) [
      | inl e ↦ followed_on.followed m i hm hi e g
      | inr e ↦ comes i hi (closed m i hm hi e g)
    ];
  }
    where
      cases : (i : ℕ) → i < n → get_or (either (set done k true) more) i false ≡ true → (get_or (set done k true) i false ≡ true) ⊎ (marked rows k i ≡ true)
      cases i hi h = or_cases (get_or (set done k true) i false) (marked rows k i) (sym (either_at (set done k true) more i (omega (arith, hi, followed_on.wide_done)) (omega (arith, hi, long))) ∙ h)

  pub fewer_past : unset (either (set done k true) more) < unset done
  fewer_past = let le = unset_or (set done k true) more in let lt = fewer_on in omega (arith, le, lt)

-- ---- one row after another

-- row j written over
pub row_closed : (n j : ℕ) (rows : List (List Bool)) (row : List Bool) → IsSquare n rows → j < n → Grows n rows (get_or rows j []) row → IsClosedRow n rows row → ClosesRow n j rows (set rows j row)
row_closed n j rows row sq lt g closed =
    let same = sym (get_or-set_same rows j row [] (omega (arith, lt, sq.many))) in
    record {
      square = IsSquare-set n rows j row sq lt g.wide;
      grows = subst (Grows n rows (get_or rows j [])) same g;
      closed = subst (IsClosedRow n rows) same closed;
      others = λ k ne. get_or-set_other rows j k row [] ne;
    }

pub rows_begun : (n : ℕ) (rows : List (List Bool)) → IsSquare n rows → ClosesRows n (replicate n false) rows rows
rows_begun n rows sq = record {
  square = sq;
  wide = length-replicate n false;
  kept = λ j i hj hi h. h;
  closed_rows = λ j hj h. absurd (false≢true (sym (get_or-replicate n j false false hj) ∙ h));
  only = λ j i hj hi h. Linked.link j i hj hi h;
}

-- rows as they are
pub rows_same : (n : ℕ) (closed : List Bool) (old new : List (List Bool)) → ClosesRows n closed old new → ClosesRows n closed new new
rows_same n closed old new c = record { square = c.square; wide = c.wide; kept = λ j i hj hi h. h; closed_rows = c.closed_rows; only = λ j i hj hi h. Linked.link j i hj hi h }

module _ (n k : ℕ) (done : List Bool) (old mid new : List (List Bool)) (lt : k < n) (c : ClosesRows n done old mid) (r : ClosesRow n k mid new) where
  other : (j i : ℕ) → (j ≡ k → ⊥) → marked new j i ≡ marked mid j i
  other j i ne = ap (λ xs. get_or xs i false) (r.others j ne)

  here : (j i : ℕ) → j ≡ k → marked new j i ≡ marked new k i
  here j i e = ap (λ m. marked new m i) e

  kept : (j i : ℕ) → j < n → i < n → marked mid j i ≡ true → marked new j i ≡ true
  kept j i hj hi h = elim (cases_eq j k) [
    | inl e ↦ here j i e ∙ r.grows.kept i hi (sym (ap (λ m. marked mid m i) e) ∙ h)
    | inr ne ↦ other j i ne ∙ h
  ]

  -- what row k has now is in each closed row that has k
  has_all : (row : List Bool) → IsClosedRow n mid row → get_or row k false ≡ true → (i : ℕ) → i < n → LeadsTo n mid (get_or mid k []) i → get_or row i false ≡ true
  has_all row closed there _ hi (LeadsTo.there i h) = closed k i lt hi there h
  has_all row closed there _ hi (LeadsTo.linked m i hm h l) = links_within n (marked mid) row closed m i l (closed k m lt hm there h)

  still_closed : (row : List Bool) → IsClosedRow n mid row → IsClosedRow n new row
  still_closed row closed m i hm hi h g = elim (cases_eq m k) [
    | inl e ↦ has_all row closed (subst (λ x. get_or row x false ≡ true) e h) i hi (r.grows.only i hi (sym (here m i e) ∙ g))
    | inr ne ↦ closed m i hm hi h (sym (other m i ne) ∙ g)
  ]

  links_to : (i : ℕ) → LeadsTo n mid (get_or mid k []) i → i < n → Linked n (marked old) k i
  links_to _ (LeadsTo.there i h) hi = c.only k i lt hi h
  links_to _ (LeadsTo.linked m i hm h l) hi = Linked.chain k m i (c.only k m lt hm h) (links_on n (marked mid) (marked old) c.only m i l)

  own_closed : IsClosedRow n new (get_or new k [])
  own_closed m i hm hi h g = elim (cases_eq m k) [
    | inl e ↦ sym (here m i e) ∙ g
    | inr ne ↦ r.closed m i hm hi h (sym (other m i ne) ∙ g)
  ]

  pub rows_more : ClosesRows n (set done k true) old new
  rows_more = record {
    square = r.square;
    wide = length-set done k true ∙ c.wide;
    kept = λ j i hj hi h. kept j i hj hi (c.kept j i hj hi h);
    closed_rows = λ j hj h. elim (cases_eq j k) [
      | inl e ↦ subst (λ x. IsClosedRow n new (get_or new x [])) (sym e) own_closed
      | inr ne ↦ subst (IsClosedRow n new) (sym (r.others j ne)) (still_closed (get_or mid j []) (c.closed_rows j hj (sym (get_or-set_other done k j true false ne) ∙ h)))
    ];
    only = λ j i hj hi h. elim (cases_eq j k) [
      | inl e ↦ subst (λ x. Linked n (marked old) x i) (sym e) (links_to i (r.grows.only i hi (sym (here j i e) ∙ h)) hi)
      | inr ne ↦ c.only j i hj hi (sym (other j i ne) ∙ h)
    ];
  }

-- rows that are all closed are closed for all numbers
pub rows_ended : (n : ℕ) (some closed : List Bool) (first old new : List (List Bool)) → ClosesRows n some first old → ((j : ℕ) → j < n → get_or closed j false ≡ true) → ClosesRows n closed old new → Closes n n first new
rows_ended n some closed first old new b all c = record {
  square = c.square;
  kept = λ j i hj hi h. c.kept j i hj hi (b.kept j i hj hi h);
  closed = λ m j i _ hm hj hi h g. c.closed_rows j hj (all j hj) m i hm hi h g;
  only = λ j i hj hi h. links_on n (marked old) (marked first) b.only j i (c.only j i hj hi h);
}

-- ---- a walk

-- a number in which a row together with these differs from these is none of them
pub other_found : (these row both : List Bool) (k : ℕ) → both ≡ either these row → length row ≡ length these → DifferFirst both these k → (k < length these) × (get_or these k false ≡ false)
other_found these row both k e wide d = (below, pick (get_or these k false) refl)
  where
    long : length both ≡ length these
    long = ap length e ∙ length-either these row (sym wide)

    below : k < length these
    below = subst (λ m. k < m) long d.in_range

    pick : (b : Bool) → get_or these k false ≡ b → get_or these k false ≡ false
    pick false is = is
    pick true is =
        let set-too : get_or both k false ≡ true = ap (λ xs. get_or xs k false) e ∙ (either_at these row k below (subst (λ m. k < m) (sym wide) below) ∙ or_left (get_or these k false) (get_or row k false) is) in
        absurd (d.differ (slice_get-get_or both k false d.in_range ∙ (ap Some (set-too ∙ sym is) ∙ sym (slice_get-get_or these k false below))))
