-- Of a test that reads finitely many atoms, some state is the first that passes, or none passes.
use Rattle.std.proofs.Common.{◌≡◌, ◌<◌, ◌≤◌, ◌+◌, ℕ, zero, suc, Bool, true, false, ◌||◌, if◌then◌else◌, nat_eq, List, [], ◌∷◌, Option, Some, None, refl, sym, ap, ◌∙◌, inl, inr, arith, eq-eqb, eqb-true}
use Rattle.std.proofs.lemmas.Bool.{or_left, false≢true, cases_lt, cases_eq, cases_order, ne_eqb}
use Rattle.kp_base.specs.declared.lit.AtomId.{AtomId}
use Rattle.kp_base.specs.Steps.{State, SameBelow, ComesBefore}
use Rattle.kp_primes_first_model.specs.Ordered.{state_of_atoms, AreRising, AnswersFirst}

-- the test reads the first n atoms alone
pub record ReadsFirst (n : ℕ) (test : State → Bool) : Type 0 where
  pub alike : (s t : State) → SameBelow n s t → test s ≡ test t

-- it reads those from the a-th on
record ReadsFrom (a n : ℕ) (test : State → Bool) : Type 0 where
  alike : (s t : State) → ((p : ℕ) → a ≤ p → p < n → s p ≡ t p) → test s ≡ test t

-- the state with one atom so
abbrev put : ℕ → Bool → State → State
put a b s p = if nat_eq p a then b else s p

put_here : (a : ℕ) (b : Bool) (s : State) → put a b s a ≡ b
put_here a b s = ap (λ x. if x then b else s a) (eq-eqb a a refl)

put_else : (a : ℕ) (b : Bool) (s : State) (p : ℕ) → (p ≡ a → ⊥) → put a b s p ≡ s p
put_else a b s p other = ap (λ x. if x then b else s p) (ne_eqb p a other)

-- where the atom is so, nothing changes
put_same : (a : ℕ) (b : Bool) (s : State) → s a ≡ b → (p : ℕ) → put a b s p ≡ s p
put_same a b s is p = by (nat_eq p a) refl
  where
    by : (x : Bool) → nat_eq p a ≡ x → (if x then b else s p) ≡ s p
    by true e = sym (ap s (eqb-true p a e) ∙ is)
    by false e = refl

-- a state of the atoms from the a-th to the n-th that passes, and none that passes comes before it
record IsLeast (a n : ℕ) (test : State → Bool) (ps : List AtomId) : Type 0 where
  passed : test (state_of_atoms ps) ≡ true
  first : (t : State) → test t ≡ true → ComesBefore t (state_of_atoms ps) → ⊥
  none_before : (p : ℕ) → p < a → state_of_atoms ps p ≡ false
  none_past : (p : ℕ) → n ≤ p → state_of_atoms ps p ≡ false
  rising : AreRising ps

abbrev AnswersLeast : ℕ → ℕ → (State → Bool) → Option (List AtomId) → Type 0
AnswersLeast a n test None = (s : State) → test s ≡ false
AnswersLeast a n test (Some ps) = IsLeast a n test ps

-- ---- one atom

module _ (a n : ℕ) (lt : a < n) (test : State → Bool) (reads : ReadsFrom a n test) where
  abbrev where_it_is : Bool → State → Bool
  where_it_is b s = test (put a b s)

  reads_less : (b : Bool) → ReadsFrom (suc a) n (where_it_is b)
  reads_less b = record { alike = λ s t same. reads.alike (put a b s) (put a b t) (λ p le less. by s t p le less same (nat_eq p a) refl) }
    where
      by : (s t : State) (p : ℕ) → a ≤ p → p < n → ((p : ℕ) → suc a ≤ p → p < n → s p ≡ t p) → (x : Bool) → nat_eq p a ≡ x → (if x then b else s p) ≡ (if x then b else t p)
      by s t p le less same true e = refl
      by s t p le less same false e = elim (cases_lt a p) [
        | inl more ↦ same p (omega (arith, more)) less
        | inr at_most ↦ let here : p ≡ a = omega (arith, le, at_most) in absurd (false≢true (sym e ∙ eq-eqb p a here))
      ]

  so_already : (b : Bool) (s : State) → s a ≡ b → where_it_is b s ≡ test s
  so_already b s is = reads.alike (put a b s) s (λ p le less. put_same a b s is p)

  -- the first state without the atom is the first
  without : (ps : List AtomId) → IsLeast (suc a) n (where_it_is false) ps → IsLeast a n test ps
  without ps l = record {
    passed = sym (so_already false (state_of_atoms ps) (l.none_before a (omega arith))) ∙ l.passed;
    first = λ t h b. l.first t (so_already false t (absent t b) ∙ h) b;
    none_before = λ p less. l.none_before p (omega (arith, less));
    none_past = l.none_past;
    rising = l.rising;
  }
    where
      absent : (t : State) → ComesBefore t (state_of_atoms ps) → t a ≡ false
      absent t b = elim (cases_lt a b.at) [
        | inl later ↦ b.alike a later ∙ l.none_before a (omega arith)
        | inr earlier ↦ absurd (false≢true (sym (l.none_before b.at (omega (arith, earlier))) ∙ b.present))
      ]

  -- else the first with it
  module _ (none : (s : State) → where_it_is false s ≡ false) (ps : List AtomId) (l : IsLeast (suc a) n (where_it_is true) ps) where
    abbrev atom : AtomId
    atom = record { 0 = a }

    here : state_of_atoms (atom ∷ ps) a ≡ true
    here = or_left (nat_eq a a) (state_of_atoms ps a) (eq-eqb a a refl)

    others : (p : ℕ) → (a ≡ p → ⊥) → state_of_atoms (atom ∷ ps) p ≡ state_of_atoms ps p
    others p other = ap (λ x. x || state_of_atoms ps p) (ne_eqb a p other)

    -- no state that passes is without the atom
    never : (t : State) → test t ≡ true → t a ≡ false → ⊥
    never t h off = false≢true (sym (none t) ∙ (so_already false t off ∙ h))

    rises : (qs : List AtomId) → ((p : ℕ) → p < suc a → state_of_atoms qs p ≡ false) → AreRising qs → AreRising (atom ∷ qs)
    rises [] before r = tt
    rises (q ∷ qs) before r = (
      elim (cases_lt a q.0) [
        | inl less ↦ less
        | inr le ↦ absurd (false≢true (sym (before q.0 (omega (arith, le))) ∙ or_left (nat_eq q.0 q.0) (state_of_atoms qs q.0) (eq-eqb q.0 q.0 refl)))
      ],
      r,
    )

    -- what comes before it comes before that of the others
    before_rest : (t : State) (b : ComesBefore t (state_of_atoms (atom ∷ ps))) → a < b.at → ComesBefore (put a false t) (state_of_atoms ps)
    before_rest t b later = record {
      at = b.at;
      alike = λ p less. elim (cases_eq p a) [
        | inl e ↦ ap (put a false t) e ∙ (put_here a false t ∙ sym (l.none_before p (omega (arith, e))))
        | inr other ↦ put_else a false t p other ∙ (b.alike p less ∙ others p (λ e. other (sym e)))
      ];
      absent = put_else a false t b.at (λ e. absurd (omega (arith, later, e))) ∙ b.absent;
      present = sym (others b.at (λ e. absurd (omega (arith, later, e)))) ∙ b.present;
    }

    first : (t : State) → test t ≡ true → ComesBefore t (state_of_atoms (atom ∷ ps)) → ⊥
    first t h b = elim (cases_order a b.at) [
      | inl e ↦ never t h (ap t e ∙ b.absent)
      | inr (inl later) ↦ l.first (put a false t) (passes later) (before_rest t b later)
      | inr (inr earlier) ↦ false≢true (sym (others b.at (λ e. absurd (omega (arith, earlier, e))) ∙ l.none_before b.at (omega (arith, earlier))) ∙ b.present)
    ]
      where
        passes : a < b.at → where_it_is true (put a false t) ≡ true
        passes later = (reads_less true).alike (put a false t) t (λ p le less. put_else a false t p (λ e. absurd (omega (arith, le, e)))) ∙ (so_already true t (b.alike a later ∙ here) ∙ h)

    with_it : IsLeast a n test (atom ∷ ps)
    with_it = record {
      passed = sym (so_already true (state_of_atoms (atom ∷ ps)) here) ∙ ((reads_less true).alike (state_of_atoms (atom ∷ ps)) (state_of_atoms ps) (λ p le less. others p (λ e. absurd (omega (arith, le, e)))) ∙ l.passed);
      first = first;
      none_before = λ p less. others p (λ e. absurd (omega (arith, less, e))) ∙ l.none_before p (omega (arith, less));
      none_past = λ p le. others p (λ e. absurd (omega (arith, le, lt, e))) ∙ l.none_past p le;
      rising = rises ps l.none_before l.rising;
    }

  neither : ((s : State) → where_it_is false s ≡ false) → ((s : State) → where_it_is true s ≡ false) → (s : State) → test s ≡ false
  neither off on s = by (s a) refl
    where
      by : (b : Bool) → s a ≡ b → test s ≡ false
      by true e = sym (so_already true s e) ∙ on s
      by false e = sym (so_already false s e) ∙ off s

  one_atom : ((o : Option (List AtomId)) × AnswersLeast (suc a) n (where_it_is false) o) → ((o : Option (List AtomId)) × AnswersLeast (suc a) n (where_it_is true) o) → (o : Option (List AtomId)) × AnswersLeast a n test o
  one_atom (Some ps, l) on = (Some ps, without ps l)
  one_atom (None, off) (Some ps, l) = (Some (record { 0 = a } ∷ ps), with_it off ps l)
  one_atom (None, off) (None, on) = (None, neither off on)

-- ---- all of them

from_atom : (m a n : ℕ) → a + m ≡ n → (test : State → Bool) → ReadsFrom a n test → (o : Option (List AtomId)) × AnswersLeast a n test o
from_atom zero a n e test reads = by (test (state_of_atoms [])) refl
  where
    by : (b : Bool) → test (state_of_atoms []) ≡ b → (o : Option (List AtomId)) × AnswersLeast a n test o
    by true is = (Some [], record { passed = is; first = λ t h b. false≢true b.present; none_before = λ p lt. refl; none_past = λ p le. refl; rising = tt })
    by false is = (None, λ s. reads.alike s (state_of_atoms []) (λ p le lt. absurd (omega (arith, e, le, lt))) ∙ is)
from_atom (suc m) a n e test reads =
    let lt : a < n = omega (arith, e) in
    let next : suc a + m ≡ n = omega (arith, e) in
    one_atom a n lt test reads
    (from_atom m (suc a) n next (λ s. test (put a false s)) (reads_less a n lt test reads false))
    (from_atom m (suc a) n next (λ s. test (put a true s)) (reads_less a n lt test reads true))

pub first_or_none : (n : ℕ) (test : State → Bool) → ReadsFirst n test → (o : Option (List AtomId)) × AnswersFirst n test o
first_or_none n test reads = go (from_atom n 0 n (omega arith) test (record { alike = λ s t same. reads.alike s t (λ p lt. same p (omega arith) lt) }))
  where
    go : ((o : Option (List AtomId)) × AnswersLeast 0 n test o) → (o : Option (List AtomId)) × AnswersFirst n test o
    go (None, none) = (None, none)
    go (Some ps, l) = (Some ps, (record { bounded = record { none_past = l.none_past }; passed = l.passed; first = l.first }, l.rising))
