-- What resolving on one literal brings in, and what it reaches.
use Rattle.std.proofs.Common.{◌≡◌, ◌≤◌, ◌<◌, ℕ, zero, suc, Bool, true, false, not, ◌||◌, ◌&&◌, ◌⊎◌, cond, List, [], ◌∷◌, ◌++◌, refl, sym, ◌∙◌, subst, inl, inr, length, arith}
use Rattle.std.proofs.lemmas.Bool.{and_parts, and_from, or_left, or_right, false≢true, cases_Bool, false_from_ne_true}
use Rattle.std.proofs.Math.Bool.{not-not}
use Rattle.std.specs.List.{list_any}
use Rattle.kp_base.specs.declared.lit.Lit.{Lit}
use Rattle.kp_base.specs.Planning.{Member, negated, same_lit, with_lit, is_tautology}
use Rattle.kp_base.specs.Steps.{has}
use Rattle.kp_base.specs.Implicates.{is_within}
use Rattle.kp_base.proofs.Lists.{any_member, any_from, append_member, member_left, member_right, filter_member}
use Rattle.kp_base.proofs.Lits.{member-has, has-member, same_lit-refl, same_lit-true}
use Rattle.kp_base.proofs.Sets.{any-with_lit}
use Rattle.kp_clauses.specs.Resolved.{without, resolved}
use Rattle.kp_clauses.specs.Stored.{subsumed, are_apart, AreNeeded}
use Rattle.kp_clauses.proofs.Public.{within_member, within_from, within_trans, tautology_within, subsumed_within, resolved_within, resolved_ascending, within_resolved, within_one_more_and_less, within_what_is_left, with_all_member, with_all_old, with_all_new, one_more_apart}
use Rattle.kp_primes.specs.Included.{grown, is_spare, is_least, met, met_all, spread, stepped}
use Rattle.kp_primes.proofs.Rising.{ascending_once}
use Rattle.kp_primes.proofs.Lengths.{once_length}

-- ---- one clause more

grown_member : (fs : List (List Lit)) (c x : List Lit) → Member (grown fs c) x → Member fs x ⊎ (c ≡ x)
grown_member fs c x m = go (subsumed fs c) m
  where
    go : (b : Bool) → Member (cond b fs (fs ++ c ∷ [])) x → Member fs x ⊎ (c ≡ x)
    go true m = inl m
    go false m = elim (append_member fs (c ∷ []) x m) [ inl r ↦ inl r | inr r ↦ elim r [ inl e ↦ inr e | inr bad ↦ absurd bad ] ]

grown_old : (fs : List (List Lit)) (c d : List Lit) → subsumed fs d ≡ true → subsumed (grown fs c) d ≡ true
grown_old fs c d h = go (subsumed fs c)
  where
    go : (b : Bool) → subsumed (cond b fs (fs ++ c ∷ [])) d ≡ true
    go true = h
    go false = let r = any_member (λ e. is_within e d) fs h in any_from (λ e. is_within e d) (fs ++ c ∷ []) r.0 (member_left fs (c ∷ []) r.0 r.1) r.2

grown_new : (fs : List (List Lit)) (c d : List Lit) → is_within c d ≡ true → subsumed (grown fs c) d ≡ true
grown_new fs c d h = go (subsumed fs c) refl
  where
    go : (b : Bool) → subsumed fs c ≡ b → subsumed (cond b fs (fs ++ c ∷ [])) d ≡ true
    go true is = subsumed_within fs c d (within_member c d h) is
    go false _ = any_from (λ e. is_within e d) (fs ++ c ∷ []) c (member_right fs (c ∷ []) c (inl refl)) h

grown_length : (fs : List (List Lit)) (c : List Lit) → length fs ≤ length (grown fs c)
grown_length fs c = go (subsumed fs c)
  where
    longer : (xs : List (List Lit)) → length xs ≤ length (xs ++ c ∷ [])
    longer [] = omega arith
    longer (x ∷ xs) = let h = longer xs in omega arith

    go : (b : Bool) → length fs ≤ length (cond b fs (fs ++ c ∷ []))
    go true = omega arith
    go false = longer fs

-- ---- what is kept

-- what is said of a resolvent that is kept
pub record IsLeast (ps es : List (List Lit)) (l : Lit) (c : List Lit) : Type 0 where
  pub proper : is_tautology c ≡ false
  pub lacks : has c l ≡ false
  pub free : subsumed ps c ≡ false
  pub none_spare : list_any (is_spare ps es l c) c ≡ false

pub least_parts : (ps es : List (List Lit)) (l : Lit) (c : List Lit) → is_least ps es l c ≡ true → IsLeast ps es l c
least_parts ps es l c h = go (is_tautology c) (has c l) (subsumed ps c) (list_any (is_spare ps es l c) c) refl refl refl refl h
  where
    go : (w x y z : Bool) → is_tautology c ≡ w → has c l ≡ x → subsumed ps c ≡ y → list_any (is_spare ps es l c) c ≡ z → not (w || (x || (y || z))) ≡ true → IsLeast ps es l c
    go true x y z _ _ _ _ h = absurd (false≢true h)
    go false true y z _ _ _ _ h = absurd (false≢true h)
    go false false true z _ _ _ _ h = absurd (false≢true h)
    go false false false true _ _ _ _ h = absurd (false≢true h)
    go false false false false a b c d _ = record { proper = a; lacks = b; free = c; none_spare = d }

-- a literal may be left out where neither needs it
pub spare_is : (ps es : List (List Lit)) (l : Lit) (c new old : List Lit) → AreNeeded es (with_lit l c) new → AreNeeded ps (with_lit (negated l) c) old → list_any (λ x. not (has new x) && not (has old x)) c ≡ list_any (is_spare ps es l c) c
spare_is ps es l c new old is_new is_old = go c (λ x m. has-member c x m)
  where
    left_out : (cs : List (List Lit)) (k : Lit) (set : List Lit) → AreNeeded cs (with_lit k c) set → (x : Lit) → has c x ≡ true → not (has set x) ≡ subsumed cs (without x (with_lit k c))
    left_out cs k set needed x on = rw (needed x, any-with_lit (same_lit x) k c, on) (not-not (subsumed cs (without x (with_lit k c))))

    go : (ds : List Lit) → ((x : Lit) → Member ds x → has c x ≡ true) → list_any (λ x. not (has new x) && not (has old x)) ds ≡ list_any (is_spare ps es l c) ds
    go [] _ = refl
    go (d ∷ ds) each = rw (left_out es l new is_new d (each d (inl refl)), left_out ps (negated l) old is_old d (each d (inl refl)), go ds (λ x m. each x (inr m))) refl

-- ---- one literal

module _ (ps es : List (List Lit)) (l : Lit) where
  -- what holds at the start, and with each resolvent more, holds at the end
  module _ (P : List (List Lit) → Type 0) where
    abbrev Goes : List Lit → List Lit → Type 0
    Goes e p = (fs : List (List Lit)) → is_least ps es l (resolved e p l) ≡ true → P fs → P (grown fs (resolved e p l))

    met_holds : (e p : List Lit) (fs : List (List Lit)) → Goes e p → P fs → P (met ps es e l p fs)
    met_holds e p fs more start = go (has p (negated l)) (is_least ps es l (resolved e p l)) refl
      where
        go : (a b : Bool) → is_least ps es l (resolved e p l) ≡ b → P (cond (a && b) (grown fs (resolved e p l)) fs)
        go false b _ = start
        go true false _ = start
        go true true is = more fs is start

    met_all_holds : (e : List Lit) (qs fs : List (List Lit)) → ((p : List Lit) → Member qs p → Goes e p) → P fs → P (met_all ps es e l qs fs)
    met_all_holds e [] fs more start = start
    met_all_holds e (q ∷ qs) fs more start = met_all_holds e qs (met ps es e l q fs) (λ p n. more p (inr n)) (met_holds e q fs (more q (inl refl)) start)

    pub spread_holds : (rest fs : List (List Lit)) → ((e p : List Lit) → Member rest e → Member ps p → Goes e p) → P fs → P (spread ps es l rest fs)
    spread_holds [] fs more start = start
    spread_holds (e ∷ rest) fs more start = spread_holds rest (cond (has e l) (met_all ps es e l ps fs) fs) (λ x p n. more x p (inr n)) (go (has e l))
      where
        go : (b : Bool) → P (cond b (met_all ps es e l ps fs) fs)
        go true = met_all_holds e ps fs (λ p n. more e p (inl refl) n) start
        go false = start

  -- ---- what comes of it

  pub spread_keeps : (Q : List Lit → Type 0) → ((e p : List Lit) → Member es e → Member ps p → is_least ps es l (resolved e p l) ≡ true → Q (resolved e p l)) → (x : List Lit) → Member (spread ps es l es []) x → Q x
  spread_keeps Q new =
      spread_holds (λ fs. (x : List Lit) → Member fs x → Q x) es []
      (λ e p in-e in-p fs least old x m. elim (grown_member fs (resolved e p l) x m) [ inl r ↦ old x r | inr is ↦ subst Q is (new e p in-e in-p least) ])
      (λ x m. absurd m)

  pub spread_length : (rest fs : List (List Lit)) → length fs ≤ length (spread ps es l rest fs)
  spread_length rest fs = spread_holds (λ gs. length fs ≤ length gs) rest fs (λ e p _ _ gs _ h. let a = grown_length gs (resolved e p l) in omega arith) (omega arith)

  -- a resolvent within one that is kept has all its literals
  least_alone : (c e p : List Lit) → is_least ps es l c ≡ true → has c (negated l) ≡ false → Member es e → Member ps p → is_within (resolved e p l) c ≡ true → is_within c (resolved e p l) ≡ true
  least_alone c e p least lacks in-e in-p inside = within_from c (resolved e p l) (λ x m. elim (cases_Bool (has (resolved e p l) x)) [
    | inl on ↦ member-has (resolved e p l) x on
    | inr off ↦ absurd (false≢true (sym (least_parts ps es l c least).none_spare ∙ any_from (is_spare ps es l c) c x m (spare x m off)))
  ])
    where
      -- a literal that the clause hasn't is none of its own
      other : (k x : Lit) → has c k ≡ false → Member c x → same_lit k x ≡ false
      other k x none m = false_from_ne_true (same_lit k x) (λ e. false≢true (sym none ∙ has-member c k (subst (Member c) (sym (same_lit-true k x e)) m)))

      spare : (x : Lit) → Member c x → has (resolved e p l) x ≡ false → is_spare ps es l c x ≡ true
      spare x m off =
          let both = within_resolved e p l in
          and_from (subsumed es (without x (with_lit l c))) (subsumed ps (without x (with_lit (negated l) c)))
          (any_from (λ d. is_within d (without x (with_lit l c))) es e in-e (within_what_is_left e c (resolved e p l) x l both.0 inside off (other l x (least_parts ps es l c least).lacks m)))
          (any_from (λ d. is_within d (without x (with_lit (negated l) c))) ps p in-p (within_what_is_left p c (resolved e p l) x (negated l) both.1 inside off (other (negated l) x lacks m)))

  -- what is kept so far: resolvents, none within another
  record AreKept (fs : List (List Lit)) : Type 0 where
    pub apart : are_apart fs ≡ true
    pub least : (x : List Lit) → Member fs x → is_least ps es l x ≡ true
    pub lacks : (x : List Lit) → Member fs x → has x (negated l) ≡ false

  -- one with the literal's negation has a prime implicate within it
  without_negated : (e p : List Lit) → Member ps p → is_least ps es l (resolved e p l) ≡ true → has (resolved e p l) (negated l) ≡ false
  without_negated e p in-p least = false_from_ne_true (has (resolved e p l) (negated l)) (λ on.
      false≢true (sym (least_parts ps es l (resolved e p l) least).free ∙ any_from (λ d. is_within d (resolved e p l)) ps p in-p (within_from p (resolved e p l) (λ x m. elim (within_member p (negated l ∷ resolved e p l) (within_resolved e p l).1 x m) [
        | inl same ↦ subst (Member (resolved e p l)) same (member-has (resolved e p l) (negated l) on)
        | inr r ↦ r
      ]))))

  kept_more : (e p : List Lit) → Member es e → Member ps p → (fs : List (List Lit)) → is_least ps es l (resolved e p l) ≡ true → AreKept fs → AreKept (grown fs (resolved e p l))
  kept_more e p in-e in-p fs least kept = record {
    apart = go (subsumed fs (resolved e p l)) refl;
    least = λ x m. elim (grown_member fs (resolved e p l) x m) [ inl r ↦ kept.least x r | inr is ↦ subst (λ z. is_least ps es l z ≡ true) is least ];
    lacks = λ x m. elim (grown_member fs (resolved e p l) x m) [ inl r ↦ kept.lacks x r | inr is ↦ subst (λ z. has z (negated l) ≡ false) is (without_negated e p in-p least) ];
  }
    where
      go : (b : Bool) → subsumed fs (resolved e p l) ≡ b → are_apart (cond b fs (fs ++ resolved e p l ∷ [])) ≡ true
      go true _ = kept.apart
      go false none = one_more_apart fs (resolved e p l) kept.apart (λ d m.
          let out : is_within d (resolved e p l) ≡ false = false_from_ne_true (is_within d (resolved e p l)) (λ t. false≢true (sym none ∙ any_from (λ x. is_within x (resolved e p l)) fs d m t)) in (
            false_from_ne_true (is_within (resolved e p l) d) (λ t. false≢true (sym out ∙ least_alone d e p (kept.least d m) (kept.lacks d m) in-e in-p t)),
            out,
          ))

  pub spread_apart : are_apart (spread ps es l es []) ≡ true
  spread_apart = (spread_holds AreKept es [] kept_more (record { apart = refl; least = λ x m. absurd m; lacks = λ x m. absurd m })).apart

  -- no new clause is within what is kept, for each has the literal
  pub spread_free : ((e : List Lit) → Member es e → has e l ≡ true) → (c : List Lit) → Member (spread ps es l es []) c → subsumed es c ≡ false
  spread_free each = spread_keeps (λ c. subsumed es c ≡ false) (λ e p _ _ least. false_from_ne_true (subsumed es (resolved e p l)) (λ t.
      let x = any_member (λ d. is_within d (resolved e p l)) es t in
      false≢true (sym (least_parts ps es l (resolved e p l) least).lacks ∙ has-member (resolved e p l) l (within_member x.0 (resolved e p l) x.2 l (member-has x.0 l (each x.0 x.1))))))

  -- ---- what it reaches

  met_all_reaches : (e : List Lit) (qs fs : List (List Lit)) (p : List Lit) → Member qs p → has p (negated l) ≡ true → is_least ps es l (resolved e p l) ≡ true → (d : List Lit) → is_within (resolved e p l) d ≡ true → subsumed (met_all ps es e l qs fs) d ≡ true
  met_all_reaches e [] fs p m here least d inside = absurd m
  met_all_reaches e (q ∷ qs) fs p m here least d inside = elim m [
    | inl same ↦ met_all_holds (λ gs. subsumed gs d ≡ true) e qs (met ps es e l q fs) (λ r _ gs _. grown_old gs (resolved e r l) d) (subst (λ (y : List Lit). subsumed (met ps es e l y fs) d ≡ true) (sym same) (rw (here, least) (grown_new fs (resolved e p l) d inside)))
    | inr r ↦ met_all_reaches e qs (met ps es e l q fs) p r here least d inside
  ]

  spread_reaches : (rest fs : List (List Lit)) (e p : List Lit) → Member rest e → has e l ≡ true → Member ps p → has p (negated l) ≡ true → is_least ps es l (resolved e p l) ≡ true → (d : List Lit) → is_within (resolved e p l) d ≡ true → subsumed (spread ps es l rest fs) d ≡ true
  spread_reaches [] fs e p m has-l n here least d inside = absurd m
  spread_reaches (x ∷ rest) fs e p m has-l n here least d inside = elim m [
    | inl same ↦ spread_holds (λ gs. subsumed gs d ≡ true) rest (cond (has x l) (met_all ps es x l ps fs) fs) (λ y q _ _ gs _. grown_old gs (resolved y q l) d) (subst (λ (y : List Lit). subsumed (cond (has y l) (met_all ps es y l ps fs) fs) d ≡ true) (sym same) (rw has-l (met_all_reaches e ps fs p n here least d inside)))
    | inr r ↦ spread_reaches rest (cond (has x l) (met_all ps es x l ps fs) fs) e p r has-l n here least d inside
  ]

-- a list without one of its elements is shorter
without_at_most : (x : Lit) (c : List Lit) → length (without x c) ≤ length c
without_at_most x [] = omega arith
without_at_most x (y ∷ c) = go (not (same_lit y x)) (without_at_most x c)
  where
    go : (b : Bool) → length (without x c) ≤ length c → length (cond b (y ∷ without x c) (without x c)) ≤ suc (length c)
    go true h = omega arith
    go false h = omega arith

without_less : (x : Lit) (c : List Lit) → Member c x → length (without x c) < length c
without_less x [] m = absurd m
without_less x (y ∷ c) m = elim m [
  | inl same ↦ rw (subst (λ (z : Lit). same_lit z x ≡ true) (sym same) (same_lit-refl x)) (let h = without_at_most x c in omega arith)
  | inr r ↦ go (not (same_lit y x)) (without_less x c r)
]
  where
    go : (b : Bool) → length (without x c) < length c → length (cond b (y ∷ without x c) (without x c)) < suc (length c)
    go true h = omega arith
    go false h = omega arith

module _ (ps : List (List Lit)) (l : Lit) where
  pub stepped_old : (es : List (List Lit)) (d : List Lit) → subsumed es d ≡ true → subsumed (stepped ps l es) d ≡ true
  stepped_old es d h = with_all_old es (spread ps es l es []) d h

  module _ (es : List (List Lit)) (d : List Lit) (proper : is_tautology d ≡ false) where
    abbrev Reached : Type 0
    Reached = (subsumed (stepped ps l es) d || subsumed ps d) ≡ true

    of_new : (e : List Lit) → Member es e → is_within e d ≡ true → Reached
    of_new e m inside = or_left (subsumed (stepped ps l es) d) (subsumed ps d) (stepped_old es d (any_from (λ x. is_within x d) es e m inside))

    of_primes : subsumed ps d ≡ true → Reached
    of_primes h = or_right (subsumed (stepped ps l es) d) (subsumed ps d) h

    -- a clause within another and one literal more, which it hasn't
    lacking : (c F : List Lit) (k : Lit) → is_within c (k ∷ F) ≡ true → has c k ≡ false → is_within c F ≡ true
    lacking c F k h none = within_from c F (λ x m. elim (within_member c (k ∷ F) h x m) [
      | inl same ↦ absurd (false≢true (sym none ∙ has-member c k (subst (Member c) (sym same) m)))
      | inr r ↦ r
    ])

    -- each resolvent that is shorter than this is reached
    abbrev ReachesBelow : ℕ → Type 0
    ReachesBelow n = (e p : List Lit) → Member es e → Member ps p → length (resolved e p l) < n → is_within (resolved e p l) d ≡ true → Reached

    -- where a literal may be left out there is a shorter one within it
    shorter : (c : List Lit) (n : ℕ) → length c < suc n → is_within c d ≡ true → ReachesBelow n → (x : Lit) → Member c x → is_spare ps es l c x ≡ true → Reached
    shorter c n small inside next x in-c spare =
        let parts = and_parts (subsumed es (without x (with_lit l c))) (subsumed ps (without x (with_lit (negated l) c))) spare in
        let e = any_member (λ b. is_within b (without x (with_lit l c))) es parts.0 in
        let p = any_member (λ b. is_within b (without x (with_lit (negated l) c))) ps parts.1 in
        let smaller = resolved_within e.0 p.0 (without x c) l (within_one_more_and_less e.0 c x l e.2) (within_one_more_and_less p.0 c x (negated l) p.2) in
        let at_most = once_length (resolved e.0 p.0 l) (without x c) (ascending_once (resolved e.0 p.0 l) (resolved_ascending e.0 p.0 l)) (within_member (resolved e.0 p.0 l) (without x c) smaller) in
        let less = without_less x c in-c in
        next e.0 p.0 e.1 p.1 (omega arith) (within_trans (resolved e.0 p.0 l) (without x c) d smaller (within_from (without x c) d (λ y m. within_member c d inside y (filter_member (λ z. not (same_lit z x)) c y m).0)))

    -- a resolvent that isn't kept has a shorter one within it, or is reached without
    reaches_next : (n : ℕ) → ReachesBelow n → ReachesBelow (suc n)
    reaches_next n next e p in-e in-p small inside = go (has e l) (has p (negated l)) (is_tautology r) (has r l) (subsumed ps r) (list_any (is_spare ps es l r) r) refl refl refl refl refl refl
      where
        r : List Lit
        r = resolved e p l

        both : (is_within e (l ∷ resolved e p l) ≡ true) × (is_within p (negated l ∷ resolved e p l) ≡ true)
        both = within_resolved e p l

        go : (a b t h s u : Bool) → has e l ≡ a → has p (negated l) ≡ b → is_tautology r ≡ t → has r l ≡ h → subsumed ps r ≡ s → list_any (is_spare ps es l r) r ≡ u → Reached
        go false b t h s u is _ _ _ _ _ = of_new e in-e (within_trans e r d (lacking e r l both.0 is) inside)
        go true false t h s u _ is _ _ _ _ = of_primes (any_from (λ x. is_within x d) ps p in-p (within_trans p r d (lacking p r (negated l) both.1 is) inside))
        go true true true h s u _ _ is _ _ _ = absurd (false≢true (sym (tautology_within r d (within_member r d inside) proper) ∙ is))
        go true true false true s u _ _ _ is _ _ = of_new e in-e (within_trans e r d (within_from e r (λ x m. elim (within_member e (l ∷ r) both.0 x m) [ inl same ↦ subst (Member r) same (member-has r l is) | inr n ↦ n ])) inside)
        go true true false false true u _ _ _ _ is _ = of_primes (subsumed_within ps r d (within_member r d inside) is)
        go true true false false false true _ _ _ _ _ is = let x = any_member (is_spare ps es l r) r is in shorter r n small inside next x.0 x.1 x.2
        go true true false false false false a b t h s u =
            or_left (subsumed (stepped ps l es) d) (subsumed ps d)
            (with_all_new es (spread ps es l es []) d (spread_reaches ps es l es [] e p in-e a in-p b (rw (t, h, s, u) refl) d inside))

    reaches : (n : ℕ) → ReachesBelow n
    reaches zero = λ e p _ _ small _. absurd (omega (arith, small))
    reaches (suc n) = reaches_next n (reaches n)

  pub stepped_reaches : (es : List (List Lit)) (e p : List Lit) → Member es e → Member ps p → (d : List Lit) → is_tautology d ≡ false → is_within (resolved e p l) d ≡ true → (subsumed (stepped ps l es) d || subsumed ps d) ≡ true
  stepped_reaches es e p in-e in-p d proper inside = reaches es d proper (suc (length (resolved e p l))) e p in-e in-p (omega arith) inside

  pub stepped_keeps : (Q : List Lit → Type 0) (es : List (List Lit)) → ((e p : List Lit) → Member es e → Member ps p → is_least ps es l (resolved e p l) ≡ true → Q (resolved e p l)) → ((x : List Lit) → Member es x → Q x) → (x : List Lit) → Member (stepped ps l es) x → Q x
  stepped_keeps Q es new old x m = elim (with_all_member es (spread ps es l es []) x m) [
    | inl r ↦ old x r
    | inr r ↦ spread_keeps ps es l Q new x r
  ]
