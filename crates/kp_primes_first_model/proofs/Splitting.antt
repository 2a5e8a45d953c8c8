-- A tag all of whose models pass, found by splitting on undecided atoms.
use Rattle.std.proofs.Common.{◌≡◌, ◌<◌, ℕ, zero, suc, Bool, true, false, not, List, [], ◌∷◌, length, arith, Option, Some, None, refl, sym, ap, ◌∙◌}
use Rattle.std.proofs.lemmas.Bool.{and_parts, or_from, or_left, or_right, false≢true, false_from_ne_true}
use Rattle.std.specs.List.{list_all}
use Rattle.kp_base.specs.declared.lit.Lit.{Lit}
use Rattle.kp_base.specs.declared.ground.Initial.{Initial}
use Rattle.kp_base.specs.Planning.{positive, negative, with_lit, State, holds, is_model, IsConsistent, IsClosure, are_below}
use Rattle.kp_base.specs.Lit.{has}
use Rattle.kp_base.proofs.Lists.{all_member, all_from}
use Rattle.kp_base.proofs.Lits.{member-has, has-member}
use Rattle.kp_primes_first_model.specs.Known.{is_decided}
use Rattle.kp_primes_first_model.specs.declared.truth.Truth.{Truth}
use Rattle.kp_primes_first_model.specs.declared.truth.Truth.TheVariants.{Yes, No, Open}
use Rattle.kp_primes_first_model.specs.Asked.{IsWitness, AnswersFind, AskTheSame, Judges, JudgesTag, is_wanted, passes_one, test_at}
use Rattle.kp_primes_first_model.proofs.Tags.{more_met, more_parts, more_below}

module _ (n : ℕ) (i : Initial) (passes : State → Bool) (tag known : List Lit) (closed : IsClosure n i tag known) where
  -- a model of the tag makes all of the closure true
  pub closure_met : (s : State) → is_model i s ≡ true → list_all (holds s) tag ≡ true → list_all (holds s) known ≡ true
  closure_met s m h = all_from (holds s) known (λ l at. closed.entailed l (has-member known l at) s m h)

  known_too : (l : Lit) → l.atom.0 < n → has tag l ≡ true → has known l ≡ true
  known_too l lt h = closed.whole l lt (λ s m all. all_member (holds s) tag l (member-has tag l h) all)

  -- what the closure doesn't decide the tag doesn't
  pub open_atom : (p : ℕ) → p < n → is_decided known p ≡ false → is_decided tag p ≡ false
  open_atom p lt off = or_from (has tag (positive p)) (has tag (negative p))
      (false_from_ne_true (has tag (positive p)) (λ h. false≢true (sym off ∙ or_left (has known (positive p)) (has known (negative p)) (known_too (positive p) lt h))))
      (false_from_ne_true (has tag (negative p)) (λ h. false≢true (sym off ∙ or_right (has known (positive p)) (has known (negative p)) (known_too (negative p) lt h))))

  -- all pass
  pub all_pass : are_below n tag ≡ true → IsConsistent i tag → ((s : State) → list_all (holds s) known ≡ true → passes s ≡ true) → IsWitness n i passes tag tag
  all_pass below met all = record {
    below = below;
    within = λ s m h. h;
    met = met;
    each = λ s m h. all s (closure_met s m h);
  }

  -- none does
  pub none_pass : ((s : State) → list_all (holds s) known ≡ true → passes s ≡ false) → AnswersFind n i passes tag None
  none_pass none s m h = none s (closure_met s m h)

  -- what the closure says of the test
  pub judges_tag : are_below n tag ≡ true → IsConsistent i tag → (t : Truth) → Judges n passes known t → JudgesTag n i passes tag t
  judges_tag below met Yes all = all_pass below met all
  judges_tag below met No none = none_pass none
  judges_tag below met (Open a) unclear =
      let u = unclear met.state (closure_met met.state met.model met.all_true) in
      (u.0, open_atom a.0 u.0 u.1)

  -- other tests that ask the same where the closure is true ask the same of the tag's models
  pub same_of_models : (tests others : List (State → Bool)) → AskTheSame (λ s. list_all (holds s) known) tests others → AskTheSame (is_wanted i (λ s. list_all (holds s) tag)) tests others
  same_of_models tests others same = record {
    as_many = same.as_many;
    same = λ k s met. let parts = and_parts (is_model i s) (list_all (holds s) tag) met in same.same k s (closure_met s parts.0 parts.1);
  }

-- a witness of the tag with one literal more is one of the tag
pub found_more : (n : ℕ) (i : Initial) (passes : State → Bool) (l : Lit) (tag found : List Lit) → IsWitness n i passes (with_lit l tag) found → IsWitness n i passes tag found
found_more n i passes l tag found w = record {
  below = w.below;
  within = λ s m h. (more_parts s l tag (w.within s m h)).0;
  met = w.met;
  each = w.each;
}

-- where none passes without the atom, the answer for the tag is that with it
pub split : (n : ℕ) (i : Initial) (passes : State → Bool) (p : ℕ) (tag : List Lit) (o : Option (List Lit)) → AnswersFind n i passes (with_lit (negative p) tag) None → AnswersFind n i passes (with_lit (positive p) tag) o → AnswersFind n i passes tag o
split n i passes p tag (Some found) none h = found_more n i passes (positive p) tag found h
split n i passes p tag None none h = λ s m met. pick s m met (s p) refl
  where
    pick : (s : State) → is_model i s ≡ true → list_all (holds s) tag ≡ true → (b : Bool) → s p ≡ b → passes s ≡ false
    pick s m met true is = h s m (more_met s (positive p) tag met is)
    pick s m met false is = none s m (more_met s (negative p) tag met (ap not is))

-- a witness that some model without the atom satisfies is one, with the atom's absence, of the tag with it
pub witness_without : (n : ℕ) (i : Initial) (passes : State → Bool) (p : ℕ) (tag found : List Lit) → p < n → IsWitness n i passes tag found → IsConsistent i (with_lit (negative p) found) → IsWitness n i passes (with_lit (negative p) tag) (with_lit (negative p) found)
witness_without n i passes p tag found lt w met = record {
  below = more_below n (negative p) found w.below lt;
  within = λ s m h. let parts = more_parts s (negative p) found h in more_met s (negative p) tag (w.within s m parts.0) parts.1;
  met = met;
  each = λ s m h. w.each s m (more_parts s (negative p) found h).0;
}

-- ---- several tests

-- who passes one with a number passes one
one_passes : (tests : List (State → Bool)) (k : ℕ) (s : State) → test_at tests k s ≡ true → passes_one tests s ≡ true
one_passes [] k s h = absurd (false≢true h)
one_passes (t ∷ ts) zero s h = or_left (t s) (passes_one ts s) h
one_passes (t ∷ ts) (suc k) s h = or_right (t s) (passes_one ts s) (one_passes ts k s h)

-- who passes none with a number passes none
none_passes : (tests : List (State → Bool)) (s : State) → ((k : ℕ) → k < length tests → test_at tests k s ≡ false) → passes_one tests s ≡ false
none_passes [] s h = refl
none_passes (t ∷ ts) s h = or_from (t s) (passes_one ts s) (h 0 (omega arith)) (none_passes ts s (λ k lt. h (suc k) (omega arith)))

-- a witness of one test is one of all
pub found_by : (n : ℕ) (i : Initial) (tests : List (State → Bool)) (k : ℕ) (tag found : List Lit) → IsWitness n i (test_at tests k) tag found → IsWitness n i (passes_one tests) tag found
found_by n i tests k tag found w = record {
  below = w.below;
  within = w.within;
  met = w.met;
  each = λ s m h. one_passes tests k s (w.each s m h);
}

-- where no test has one, none of the tag's models passes
pub found_by_none : (n : ℕ) (i : Initial) (tests : List (State → Bool)) (tag : List Lit) → ((k : ℕ) → k < length tests → AnswersFind n i (test_at tests k) tag None) → AnswersFind n i (passes_one tests) tag None
found_by_none n i tests tag none s m h = none_passes tests s (λ k lt. none k lt s m h)
