-- The first model that passes, atom by atom: absent wherever some model passes without it.
use Rattle.std.proofs.Common.{◌≡◌, ◌<◌, ◌≤◌, ◌+◌, ℕ, Bool, true, false, not, ◌||◌, nat_eq, nat_lt, List, [], ◌∷◌, ◌++◌, None, refl, sym, ap, subst, ◌∙◌, inl, inr, arith, eq-eqb, ltb-true, lt-ltb}
use Rattle.std.proofs.lemmas.Bool.{and_parts, and_from, or_from, or_right, false≢true, cases_lt, ne_eqb, not-true}
use Rattle.std.proofs.lemmas.List.Folds.{list_any-append}
use Rattle.std.specs.List.{list_all}
use Rattle.kp_base.specs.declared.lit.Lit.{Lit}
use Rattle.kp_base.specs.declared.lit.AtomId.{AtomId}
use Rattle.kp_base.specs.declared.ground.Initial.{Initial}
use Rattle.kp_base.specs.Planning.{positive, negative, with_lit, State, holds, is_model, IsOfAtoms}
use Rattle.kp_base.proofs.Lists.{all_weaker}
use Rattle.kp_primes_first_model.specs.Ordered.{state_of_atoms, AreRising, AreFirst}
use Rattle.kp_primes_first_model.specs.Chosen.{IsChosen}
use Rattle.kp_primes_first_model.specs.Asked.{is_wanted, IsWitness, AnswersFind}
use Rattle.kp_primes_first_model.proofs.Tags.{more_met, more_parts, more_below}
use Rattle.kp_primes_first_model.proofs.Reading.{all_same, model_same}

-- ---- the state of some atoms, with one more

more_of : (ps : List AtomId) (a : AtomId) (q : ℕ) → state_of_atoms (ps ++ a ∷ []) q ≡ (state_of_atoms ps q || nat_eq a.0 q)
more_of ps a q = list_any-append (λ (x : AtomId). nat_eq x.0 q) ps (a ∷ []) ∙ ap (λ b. state_of_atoms ps q || b) (turned (nat_eq a.0 q))
  where
    turned : (b : Bool) → (b || false) ≡ b
    turned true = refl
    turned false = refl

same_of : (ps : List AtomId) (a : AtomId) (q : ℕ) → q < a.0 → state_of_atoms (ps ++ a ∷ []) q ≡ state_of_atoms ps q
same_of ps a q lt = more_of ps a q ∙ (ap (λ b. state_of_atoms ps q || b) (ne_eqb a.0 q (λ e. absurd (omega (arith, e)))) ∙ turned (state_of_atoms ps q))
  where
    turned : (b : Bool) → (b || false) ≡ b
    turned true = refl
    turned false = refl

there_of : (ps : List AtomId) (a : AtomId) → state_of_atoms (ps ++ a ∷ []) a.0 ≡ true
there_of ps a = more_of ps a a.0 ∙ or_right (state_of_atoms ps a.0) (nat_eq a.0 a.0) (eq-eqb a.0 a.0 refl)

past_of : (ps : List AtomId) (a : AtomId) (q : ℕ) → state_of_atoms ps q ≡ false → a.0 < q → state_of_atoms (ps ++ a ∷ []) q ≡ false
past_of ps a q off lt = more_of ps a q ∙ or_from (state_of_atoms ps q) (nat_eq a.0 q) off (ne_eqb a.0 q (λ e. absurd (omega (arith, e))))

rising_more : (ps : List AtomId) (a : AtomId) → AreRising ps → list_all (λ p. nat_lt p.0 a.0) ps ≡ true → AreRising (ps ++ a ∷ [])
rising_more [] a r h = tt
rising_more (p ∷ []) a r h = (ltb-true p.0 a.0 (and_parts (nat_lt p.0 a.0) true h).0, tt)
rising_more (p ∷ q ∷ ps) a r h = (r.0, rising_more (q ∷ ps) a r.1 (and_parts (nat_lt p.0 a.0) (list_all (λ p. nat_lt p.0 a.0) (q ∷ ps)) h).1)

-- ---- the choice

pub chosen_none : (n : ℕ) (i : Initial) (passes : State → Bool) (found : List Lit) → IsWitness n i passes [] found → IsChosen n 0 i passes [] found []
chosen_none n i passes found w = record {
  below = refl;
  witness = w;
  agrees = λ s h q lt. absurd (omega arith);
  met = λ s h. refl;
  bounded = λ q le. refl;
  least = λ t h b. false≢true b.present;
  in_range = refl;
  rising = tt;
}

range_more : (p : ℕ) (ps : List AtomId) → list_all (λ q. nat_lt q.0 p) ps ≡ true → list_all (λ q. nat_lt q.0 (p + 1)) ps ≡ true
range_more p ps h = all_weaker (λ q. nat_lt q.0 p) (λ q. nat_lt q.0 (p + 1)) ps (λ q m lt. lt-ltb q.0 (p + 1) (let l = ltb-true q.0 p lt in omega arith)) h

range_new : (p : ℕ) (ps : List AtomId) (a : AtomId) → a.0 ≡ p → list_all (λ q. nat_lt q.0 p) ps ≡ true → list_all (λ q. nat_lt q.0 (p + 1)) (ps ++ a ∷ []) ≡ true
range_new p ps a e h = all-append (λ q. nat_lt q.0 (p + 1)) ps (a ∷ []) (range_more p ps h) (and_from (nat_lt a.0 (p + 1)) true (lt-ltb a.0 (p + 1) (omega (arith, e))) refl)
  where
    all-append : (k : AtomId → Bool) (xs ys : List AtomId) → list_all k xs ≡ true → list_all k ys ≡ true → list_all k (xs ++ ys) ≡ true
    all-append k [] ys f g = g
    all-append k (x ∷ xs) ys f g = let parts = and_parts (k x) (list_all k xs) f in and_from (k x) (list_all k (xs ++ ys)) parts.0 (all-append k xs ys parts.1 g)

module _ (n p : ℕ) (i : Initial) (passes : State → Bool) (tag found : List Lit) (present : List AtomId) (lt : p < n) (chosen : IsChosen n p i passes tag found present) where
  -- some model passes without the atom
  pub chosen_absent : (other : List Lit) → IsWitness n i passes (with_lit (negative p) tag) other → IsChosen n (p + 1) i passes (with_lit (negative p) tag) other present
  chosen_absent other w = record {
    below = more_below n (negative p) tag chosen.below lt;
    witness = w;
    agrees = λ s h q less.
        let parts = more_parts s (negative p) tag h in
        elim (cases_lt q p) [
          | inl before ↦ chosen.agrees s parts.0 q before
          | inr after ↦
              let e : p ≡ q = omega arith in
              subst (λ x. s x ≡ state_of_atoms present x) e (not-true (s p) parts.1 ∙ sym (chosen.bounded p (omega arith)))
        ];
    met = λ s h. more_met s (negative p) tag (chosen.met s (λ q less. h q (omega arith))) (ap not (h p (omega arith) ∙ chosen.bounded p (omega arith)));
    bounded = λ q le. chosen.bounded q (omega arith);
    least = chosen.least;
    in_range = range_more p present chosen.in_range;
    rising = chosen.rising;
  }

  module _ (a : AtomId) (is : a.0 ≡ p) (none : AnswersFind n i passes (with_lit (negative p) tag) None) where
    earlier : (q : ℕ) → q < p → state_of_atoms (present ++ a ∷ []) q ≡ state_of_atoms present q
    earlier q less = same_of present a q (omega (arith, is, less))

    here : state_of_atoms (present ++ a ∷ []) p ≡ true
    here = subst (λ x. state_of_atoms (present ++ a ∷ []) x ≡ true) is (there_of present a)

    -- past it none is present
    at_most : (q : ℕ) → p ≤ q → state_of_atoms (present ++ a ∷ []) q ≡ true → q ≡ p
    at_most q le on = elim (cases_lt p q) [
      | inl more ↦ absurd (false≢true (sym (past_of present a q (chosen.bounded q le) (omega (arith, is, more))) ∙ on))
      | inr less ↦ omega arith
    ]

    -- no model that satisfies the tag and passes is without the atom
    never : (s : State) → is_model i s ≡ true → passes s ≡ true → list_all (holds s) tag ≡ true → s p ≡ true
    never s m w h = pick (s p) refl
      where
        pick : (b : Bool) → s p ≡ b → s p ≡ true
        pick true e = e
        pick false e = absurd (false≢true (sym (none s m (more_met s (negative p) tag h (ap not e))) ∙ w))

    pub chosen_present : IsChosen n (p + 1) i passes (with_lit (positive p) tag) found (present ++ a ∷ [])
    chosen_present = record {
      below = more_below n (positive p) tag chosen.below lt;
      witness = record {
        below = chosen.witness.below;
        within = λ s m h. let t = chosen.witness.within s m h in more_met s (positive p) tag t (never s m (chosen.witness.each s m h) t);
        met = chosen.witness.met;
        each = chosen.witness.each;
      };
      agrees = λ s h q less.
          let parts = more_parts s (positive p) tag h in
          elim (cases_lt q p) [
            | inl before ↦ chosen.agrees s parts.0 q before ∙ sym (earlier q before)
            | inr after ↦
                let e : p ≡ q = omega arith in
                subst (λ x. s x ≡ state_of_atoms (present ++ a ∷ []) x) e (parts.1 ∙ sym here)
          ];
      met = λ s h. more_met s (positive p) tag (chosen.met s (λ q less. h q (omega arith) ∙ earlier q less)) (h p (omega arith) ∙ here);
      bounded = λ q le. past_of present a q (chosen.bounded q (omega arith)) (omega (arith, is, le));
      least = λ t h b.
          elim (cases_lt b.at p) [
            | inl before ↦ chosen.least t h (record {
              at = b.at;
              alike = λ q less. b.alike q less ∙ earlier q (omega arith);
              absent = b.absent;
              present = sym (earlier b.at before) ∙ b.present;
            })
            | inr after ↦
                let e : b.at ≡ p = at_most b.at after b.present in
                let w = and_parts (is_model i t) (passes t) h in
                let tagged = chosen.met t (λ q less. b.alike q (omega arith) ∙ earlier q less) in
                false≢true (sym (subst (λ x. t x ≡ false) e b.absent) ∙ never t w.0 w.1 tagged)
          ];
      in_range = range_new p present a is chosen.in_range;
      rising = rising_more present a chosen.rising (subst (λ x. list_all (λ q. nat_lt q.0 x) present ≡ true) (sym is) chosen.in_range);
    }

-- what stands after all atoms is the first
pub chosen_all : (n : ℕ) (i : Initial) (passes : State → Bool) (tag found : List Lit) (present : List AtomId) → IsOfAtoms n i → IsChosen n n i passes tag found present → AreFirst n (is_wanted i passes) present
chosen_all n i passes tag found present of chosen =
    let s = chosen.witness.met in
    let same = chosen.agrees s.state (chosen.witness.within s.state s.model s.all_true) in
    let model = sym (model_same n s.state (state_of_atoms present) same i of) ∙ s.model in
    let all = sym (all_same n s.state (state_of_atoms present) same found chosen.witness.below) ∙ s.all_true in (
      record {
        bounded = record { none_past = chosen.bounded };
        passed = and_from (is_model i (state_of_atoms present)) (passes (state_of_atoms present)) model (chosen.witness.each (state_of_atoms present) model all);
        first = chosen.least;
      },
      chosen.rising,
    )
